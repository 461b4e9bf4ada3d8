-- Lists that a loop goes over: what holds of the items that it has passed, and what they are written as.
use Rattle.std.proofs.Common.{◌≡◌, ℕ, ◌+◌, ◌<◌, ◌≤◌, List, [], ◌∷◌, ◌++◌, length, take, drop, get_or, sym, ap, ◌∙◌, subst, flat_map, append-nil, append_assoc, take-append-drop}
use Rattle.std.proofs.lemmas.List.{take_more}
use Rattle.std.proofs.lemmas.List.Concat.{flat_map-append}
use Rattle.std.proofs.lemmas.List.Elements.{All-from_recursion}
use Rattle.std.proofs.lemmas.List.Folds.{length-flat_map-take}
use Rattle.std.specs.List.{AllByRecursion}
use Rattle.mongo_bson.proofs.Passed.{all_push}

one_more : {X : Type 0} (xs : List X) (i : ℕ) (x : X) → i < length xs → x ≡ get_or xs i x → take (i + 1) xs ≡ take i xs ++ x ∷ []
one_more xs i x within at = take_more xs i x within ∙ ap (λ y. take i xs ++ y ∷ []) (sym at)

pub all_taken_more : {X : Type 0} (P : X → Type 0) (xs : List X) (i : ℕ) (x : X) → i < length xs → x ≡ get_or xs i x → AllByRecursion P (take i xs) → P x → AllByRecursion P (take (i + 1) xs)
all_taken_more P xs i x within at all one = subst (AllByRecursion P) (sym (one_more xs i x within at)) (all_push P (take i xs) x all one)

-- one of them all
pub one_of_all : {X : Type 0} (P : X → Type 0) (xs : List X) (i : ℕ) (x : X) → i < length xs → x ≡ get_or xs i x → AllByRecursion P xs → P x
one_of_all P xs i x within at all = subst P (sym at) (All-from_recursion P xs all i x within)

pub joined_more : {X : Type 0} (f : X → List ℕ) (xs : List X) (i : ℕ) (x : X) → i < length xs → x ≡ get_or xs i x → flat_map f (take (i + 1) xs) ≡ flat_map f (take i xs) ++ f x
joined_more f xs i x within at =
    ap (flat_map f) (one_more xs i x within at) ∙ flat_map-append f (take i xs) (x ∷ []) ∙ ap (λ w. flat_map f (take i xs) ++ w) (append-nil (f x))

-- the items before one, it, and those after it
pub joined_at : {X : Type 0} (f : X → List ℕ) (xs : List X) (i : ℕ) (x : X) → i < length xs → x ≡ get_or xs i x → flat_map f (take i xs) ++ (f x ++ flat_map f (drop (i + 1) xs)) ≡ flat_map f xs
joined_at f xs i x within at =
    let front = flat_map f (take i xs) in
    let rest = flat_map f (drop (i + 1) xs) in
    sym (append_assoc front (f x) rest) ∙ ap (λ w. w ++ rest) (sym (joined_more f xs i x within at)) ∙ sym (flat_map-append f (take (i + 1) xs) (drop (i + 1) xs)) ∙ ap (flat_map f) (take-append-drop (i + 1) xs)

pub length_within : {X : Type 0} (f : X → List ℕ) (xs : List X) (i : ℕ) (x : X) → i < length xs → x ≡ get_or xs i x → length (flat_map f (take i xs)) + length (f x) ≤ length (flat_map f xs)
length_within f xs i x within at = subst (λ y. length (flat_map f (take i xs)) + length (f y) ≤ length (flat_map f xs)) (sym at) (length-flat_map-take f xs i x within)
