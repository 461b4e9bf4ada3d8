-- How many bytes fields take, where the sum stops at the greatest `usize`.
use Rattle.std.proofs.Common.{◌≡◌, ℕ, ◌+◌, ◌-◌, ◌^◌, ◌<◌, min, List, [], ◌∷◌, ◌++◌, length, length-append, take, get_or, sym, ap, ◌∙◌, arith}
use Rattle.std.specs.List.{flat_map}
use Rattle.std.proofs.lemmas.Grind.{flat_map-append}
use Rattle.std.proofs.lemmas.List.{append-nil, take_more}
use Rattle.mongo_bson.specs.Document.{Element, spell}
use Rattle.mongo_command.specs.Arguments.{size_of_elements}

-- one element and some more
pub size_of_first : (e : Element) (es : List Element) (first more sum : ℕ) → first ≡ size_of_elements (e ∷ []) → more ≡ size_of_elements es → sum ≡ min (first + more) (2 ^ 64 - 1) → sum ≡ size_of_elements (e ∷ es)
size_of_first e es first more sum one rest is =
    omega (arith, one, rest, is, ap length (append-nil (spell e)), length-append (spell e) (flat_map spell es))

pub size_of_more : {X : Type 0} (elements : X → List Element) (xs : List X) (i : ℕ) (x : X) (size here sum : ℕ) → i < length xs → x ≡ get_or xs i x
    → size ≡ size_of_elements (flat_map elements (take i xs)) → here ≡ size_of_elements (elements x) → sum ≡ min (size + here) (2 ^ 64 - 1)
    → sum ≡ size_of_elements (flat_map elements (take (i + 1) xs))
size_of_more elements xs i x size here sum within at before one is =
    let front = flat_map elements (take i xs) in
    let grown : flat_map elements (take (i + 1) xs) ≡ front ++ elements x = ap (flat_map elements) (take_more xs i x within ∙ ap (λ y. take i xs ++ y ∷ []) (sym at)) ∙ flat_map-append elements (take i xs) (x ∷ []) ∙ ap (λ es. front ++ es) (append-nil (elements x)) in
    let whole : length (flat_map spell (flat_map elements (take (i + 1) xs))) ≡ length (flat_map spell front) + length (flat_map spell (elements x)) = ap (λ es. length (flat_map spell es)) grown ∙ ap length (flat_map-append spell front (elements x)) ∙ length-append (flat_map spell front) (flat_map spell (elements x)) in
    omega (arith, whole, before, one, is)
