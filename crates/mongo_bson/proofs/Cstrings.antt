-- A cstring ends at the first zero, so at most one stands at the front.
use Rattle.std.proofs.Common.{◌≡◌, ◌≢◌, ℕ, ◌+◌, List, [], ◌∷◌, ◌++◌, length, take, drop, refl, sym, ap, ◌∙◌, subst, arith}
use Rattle.std.specs.List.{All, AllByRecursion}
use Rattle.std.proofs.lemmas.List.{take-append-drop, drop_more, length-append, get_or_at}
use Rattle.std.proofs.lemmas.List.Elements.{recursion_from_All}
use Rattle.std.specs.Str.{IsUtf8}
use Rattle.mongo_bson.specs.Reading.{IsFirstZero, HasNoCstring}

abbrev pub HasNoZero : List ℕ → Type 0
HasNoZero xs = AllByRecursion (λ b. b ≢ 0) xs

-- two texts without a zero, each before a zero, are one text
pub one_cstring : (a b x y : List ℕ) → HasNoZero a → HasNoZero b → a ++ 0 ∷ x ≡ b ++ 0 ∷ y → (a ≡ b) × (x ≡ y)
one_cstring [] [] x y p q e = (refl, cc)
one_cstring [] (d ∷ b) x y p q e = let z : d ≡ 0 = cc in absurd (q.0 z)
one_cstring (c ∷ a) [] x y p q e = let z : c ≡ 0 = cc in absurd (p.0 z)
one_cstring (c ∷ a) (d ∷ b) x y p q e =
    let rest : a ++ 0 ∷ x ≡ b ++ 0 ∷ y = cc in
    let one = one_cstring a b x y p.1 q.1 rest in
    let head : c ≡ d = cc in
    let same : a ≡ b = one.0 in
    (cc, one.1)

-- the bytes up to their first zero have none
pub before_zero : (bytes : List ℕ) (n : ℕ) → IsFirstZero bytes n → HasNoZero (take n bytes)
before_zero bytes n first = recursion_from_All (λ b. b ≢ 0) (take n bytes) first.before

-- bytes are cut at their first zero
pub cut_at_zero : (bytes : List ℕ) (n : ℕ) → IsFirstZero bytes n → bytes ≡ take n bytes ++ 0 ∷ drop (n + 1) bytes
cut_at_zero bytes n first =
    let more = drop_more bytes n 0 first.within in
    sym (take-append-drop n bytes) ∙ ap (λ w. take n bytes ++ w) (more ∙ ap (λ z. z ∷ drop (n + 1) bytes) first.zero)

-- bytes without a zero have no cstring
pub no_zero_no_cstring : (bytes : List ℕ) → All (λ b. b ≢ 0) bytes → HasNoCstring bytes
no_zero_no_cstring bytes none name rest is e =
    none (length name) 0 (omega (arith, ap length e, length-append name (0 ∷ rest))) (rw e (get_or_at name 0 rest 0 (length name) refl))

-- what ends at the first zero is the only cstring that can stand there
pub other_text_no_cstring : (bytes : List ℕ) (n : ℕ) → IsFirstZero bytes n → (IsUtf8 (take n bytes) → ⊥) → HasNoCstring bytes
other_text_no_cstring bytes n first other name rest is e =
    let same = one_cstring name (take n bytes) rest (drop (n + 1) bytes) is.without_zero (before_zero bytes n first) (sym e ∙ cut_at_zero bytes n first) in
    other (subst IsUtf8 same.0 is.utf8)
