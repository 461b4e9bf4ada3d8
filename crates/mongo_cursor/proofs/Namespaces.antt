-- A text that means a namespace has a dot, and not at its front.
use Rattle.std.proofs.Common.{◌≡◌, ◌≢◌, ◌<◌, ℕ, suc, List, [], ◌∷◌, ◌++◌, Option, Some, None, length, get_or, refl, sym, subst, ◌∙◌, ap, arith, MatchOption, Bor}
use Rattle.std.proofs.lemmas.Str.Pattern.{IsSplitOnceResult, split_parts}
use Rattle.mongo_cursor.specs.Batch.{IsNamespace, HasNoDot}
use Rattle.mongo_cursor.specs.declared.namespace.Namespace.{Namespace}

has_no_dot : (text : List ℕ) → ((i : ℕ) → i < length text → get_or text i 0 ≢ 0x2E) → HasNoDot text
has_no_dot [] none = tt
has_no_dot (byte ∷ text) none = (none 0 (omega arith), has_no_dot text (λ i within. none (suc i) (omega arith)))

-- what `split_once` gives
pub cut_at_dot : (text : List ℕ) (r : Option (Bor (List ℕ) × Bor (List ℕ))) → IsSplitOnceResult 0x2E text r
    → MatchOption r (HasNoDot text) (λ p. HasNoDot p.0.now × (text ≡ p.0.now ++ (0x2E ∷ p.1.now)))
cut_at_dot text None is = has_no_dot text (split_parts 0x2E text None is (omega arith))
cut_at_dot text (Some p) is = let parts = split_parts 0x2E text (Some p) is (omega arith) in (has_no_dot p.0.now parts.1, parts.0)

has_dot : (front rest : List ℕ) → HasNoDot (front ++ (0x2E ∷ rest)) → ⊥
has_dot [] rest none = none.0 refl
has_dot (byte ∷ front) rest none = has_dot front rest none.1

pub no_namespace : (text : List ℕ) → HasNoDot text → (namespace : Namespace) → IsNamespace text namespace → ⊥
no_namespace text none namespace is = has_dot namespace.db namespace.collection (subst HasNoDot is.spelled none)

heads : (a b : ℕ) (x y : List ℕ) → a ∷ x ≡ b ∷ y → a ≡ b
heads a b x y is = cc

dot_first : (rest db collection : List ℕ) → 0x2E ∷ rest ≡ db ++ (0x2E ∷ collection) → HasNoDot db → 0 < length db → ⊥
dot_first rest [] collection is none some = absurd (omega (arith, some))
dot_first rest (byte ∷ db) collection is none some = none.0 (sym (heads 0x2E byte rest (db ++ (0x2E ∷ collection)) is))

-- a text whose first dot stands at its front
pub no_database : (text db rest : List ℕ) → text ≡ db ++ (0x2E ∷ rest) → db ≡ [] → (namespace : Namespace) → IsNamespace text namespace → ⊥
no_database text db rest is none namespace holds =
    dot_first rest namespace.db namespace.collection (ap (λ d. d ++ (0x2E ∷ rest)) (sym none) ∙ sym is ∙ holds.spelled) holds.first holds.some
