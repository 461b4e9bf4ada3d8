-- At most one element stands at the front, so at most one list of elements fills a document.
use Rattle.std.proofs.Common.{◌≡◌, ℕ, ◌⊎◌, inl, inr, List, [], ◌∷◌, ◌++◌, length, take, refl, sym, ap, ◌∙◌, subst, arith}
use Rattle.std.specs.List.{AllByRecursion, flat_map}
use Rattle.std.proofs.lemmas.List.{take_at, length-append, append_assoc, append_cancel_left}
use Rattle.mongo_bson.specs.Framed.{IsFramed}
use Rattle.mongo_bson.specs.Document.{Element, Shape, fixed, boolean, string, document, binary, regular_expression, db_pointer, code_with_scope, shape_of, Holds, IsElement, IsDocument, IsString, IsBinary, spell}
use Rattle.mongo_bson.proofs.ByKind.{same_shape}
use Rattle.mongo_bson.proofs.Cstrings.{HasNoZero, one_cstring}
use Rattle.mongo_bson.proofs.Sizes.{string_size, document_size, binary_size, code_with_scope_size, one_size}

-- fronts of one length are one
same_front : (v w x y : List ℕ) → v ++ x ≡ w ++ y → length v ≡ length w → v ≡ w
same_front v w x y e l = sym (take_at v x (length v) refl) ∙ ap (take (length v)) e ∙ take_at w y (length v) (sym l)

one_pair : (a b c d x y : List ℕ) → HasNoZero a → HasNoZero b → HasNoZero c → HasNoZero d → a ++ 0 ∷ (b ++ 0 ∷ x) ≡ c ++ 0 ∷ (d ++ 0 ∷ y) → (a ≡ c) × (b ≡ d)
one_pair a b c d x y p q r s e =
    let first = one_cstring a c (b ++ 0 ∷ x) (d ++ 0 ∷ y) p r e in
    let second = one_cstring b d x y q s first.1 in
    (first.0, second.0)

pub pair_at_front : (v a b x : List ℕ) → v ≡ a ++ (0 ∷ (b ++ 0 ∷ [])) → v ++ x ≡ a ++ 0 ∷ (b ++ 0 ∷ x)
pair_at_front v a b x e = ap (λ w. w ++ x) e ∙ append_assoc a (0 ∷ (b ++ 0 ∷ [])) x ∙ ap (λ w. a ++ 0 ∷ w) (append_assoc b (0 ∷ []) x)

one_byte : (v : List ℕ) → (v ≡ 0 ∷ []) ⊎ (v ≡ 1 ∷ []) → length v ≡ 1
one_byte v p = elim p [ inl e ↦ ap length e | inr e ↦ ap length e ]

pub id_at_front : (v name id x : List ℕ) → v ≡ name ++ id → v ++ x ≡ name ++ (id ++ x)
id_at_front v name id x e = ap (λ w. w ++ x) e ∙ append_assoc name id x

-- an element by its parts
abbrev pub made_of : ℕ → List ℕ → List ℕ → Element
made_of kind key value = record { kind = kind; key = key; value = value }

same_parts : (k l : ℕ) (a b v w : List ℕ) → k ≡ l → a ≡ b → v ≡ w → made_of k a v ≡ made_of l b w
same_parts k l a b v w p q r = ap (λ z. made_of z a v) p ∙ ap (λ z. made_of l z v) q ∙ ap (λ z. made_of l b z) r

-- at most one value of a shape stands at the front
pub one_value : (shape : Shape) (v w x y : List ℕ) → Holds shape v → Holds shape w → v ++ x ≡ w ++ y → v ≡ w
one_value (fixed n) v w x y p q e = same_front v w x y e (p ∙ sym q)
one_value boolean v w x y p q e = same_front v w x y e (one_byte v p ∙ sym (one_byte w q))
one_value string v w x y p q e = same_front v w x y e (one_size IsString (v ++ x) v w x y 4 (string_size (v ++ x)) p q refl e)
one_value document v w x y p q e = same_front v w x y e (one_size IsFramed (v ++ x) v w x y 0 (document_size (v ++ x)) p q refl e)
one_value binary v w x y p q e = same_front v w x y e (one_size IsBinary (v ++ x) v w x y 5 (binary_size (v ++ x)) p q refl e)
one_value regular_expression v w x y (a, b, p) (c, d, q) e =
    let both = one_pair a b c d x y p.pattern_cstring.without_zero p.options_cstring.without_zero q.pattern_cstring.without_zero q.options_cstring.without_zero (sym (pair_at_front v a b x p.spelled) ∙ e ∙ pair_at_front w c d y q.spelled) in
    let first : a ≡ c = both.0 in
    let second : b ≡ d = both.1 in
    p.spelled ∙ ap (λ z. z ++ (0 ∷ (b ++ 0 ∷ []))) first ∙ ap (λ z. c ++ (0 ∷ (z ++ 0 ∷ []))) second ∙ sym q.spelled
one_value db_pointer v w x y (a, b, p) (c, d, q) e =
    let strings = one_size IsString (v ++ x) a c (b ++ x) (d ++ y) 4 (string_size (v ++ x)) p.string q.string (id_at_front v a b x p.spelled) (e ∙ id_at_front w c d y q.spelled) in
    same_front v w x y e (omega (arith, ap length p.spelled, ap length q.spelled, length-append a b, length-append c d, p.twelve, q.twelve, strings))
one_value code_with_scope v w x y p q e = same_front v w x y e (one_size (Holds code_with_scope) (v ++ x) v w x y 0 (code_with_scope_size (v ++ x)) p q refl e)

-- at most one element stands at the front
pub one_element : (e f : Element) (x y : List ℕ) → IsElement e → IsElement f → spell e ++ x ≡ spell f ++ y → (e ≡ f) × (x ≡ y)
one_element e f x y p q same =
    let kind : e.kind ≡ f.kind = cc in
    let tails : (e.key ++ 0 ∷ e.value) ++ x ≡ (f.key ++ 0 ∷ f.value) ++ y = cc in
    let keys = one_cstring e.key f.key (e.value ++ x) (f.value ++ y) p.key.without_zero q.key.without_zero (sym (append_assoc e.key (0 ∷ e.value) x) ∙ tails ∙ append_assoc f.key (0 ∷ f.value) y) in
    let shape : p.shape ≡ q.shape = same_shape p.shape q.shape (sym p.known ∙ ap shape_of kind ∙ q.known) in
    let held : Holds q.shape e.value = subst (λ s. Holds s e.value) shape p.value in
    let value = one_value q.shape e.value f.value x y held q.value keys.1 in
    (same_parts e.kind f.kind e.key f.key e.value f.value kind keys.0 value, append_cancel_left f.value x y (sym (ap (λ v. v ++ x) value) ∙ keys.1))

-- a document has one list of elements
pub one_list : (es fs : List Element) → AllByRecursion IsElement es → AllByRecursion IsElement fs → flat_map spell es ≡ flat_map spell fs → es ≡ fs
one_list [] [] p q same = refl
one_list [] (f ∷ fs) p q same = cc
one_list (e ∷ es) [] p q same = cc
one_list (e ∷ es) (f ∷ fs) p q same =
    let one = one_element e f (flat_map spell es) (flat_map spell fs) p.0 q.0 same in
    let rest = one_list es fs p.1 q.1 one.1 in
    let head = one.0 in
    cc

pub one_document : (b : List ℕ) (es fs : List Element) → IsDocument b es → IsDocument b fs → es ≡ fs
one_document b es fs p q = one_list es fs p.each q.each (sym p.filled ∙ q.filled)
