-- What the parts of an element at the front say of the element.
use Rattle.std.proofs.Common.{◌≡◌, ℕ, List, ◌∷◌, ◌++◌, take, drop, sym, ap, ◌∙◌, subst}
use Rattle.std.proofs.lemmas.List.{append_assoc, take-append-drop}
use Rattle.mongo_bson.specs.Document.{spell}
use Rattle.mongo_bson.specs.Reading.{IsAtFront, NoneAtFront, HoldsKind, BeginsWithCstring, HasNoCstring, BeginsWithElement, NoElementAtFront}
use Rattle.mongo_bson.proofs.Cstrings.{one_cstring}
use Rattle.mongo_bson.proofs.OneElement.{made_of}

head_of : (k l : ℕ) (xs ys : List ℕ) → k ∷ xs ≡ l ∷ ys → k ≡ l
head_of k l xs ys e = cc

tail_of : (k l : ℕ) (xs ys : List ℕ) → k ∷ xs ≡ l ∷ ys → xs ≡ ys
tail_of k l xs ys e = cc

spelled_out : (kind : ℕ) (key value rest : List ℕ) → spell (made_of kind key value) ++ rest ≡ kind ∷ (key ++ 0 ∷ (value ++ rest))
spelled_out kind key value rest = ap (λ w. kind ∷ w) (append_assoc key (0 ∷ value) rest)

pub no_key : (bytes after : List ℕ) (kind : ℕ) → bytes ≡ kind ∷ after → HasNoCstring after → NoElementAtFront bytes
no_key bytes after kind front none e rest is same =
    let tails : after ≡ e.key ++ 0 ∷ (e.value ++ rest) = tail_of kind e.kind after (e.key ++ 0 ∷ (e.value ++ rest)) (sym front ∙ same ∙ spelled_out e.kind e.key e.value rest) in
    none e.key (e.value ++ rest) is.key tails

pub no_value : (bytes after key values : List ℕ) (kind : ℕ) → bytes ≡ kind ∷ after → BeginsWithCstring after key values → NoneAtFront (HoldsKind kind) values → NoElementAtFront bytes
no_value bytes after key values kind front name none e rest is same =
    let whole = sym front ∙ same ∙ spelled_out e.kind e.key e.value rest in
    let heads : e.kind ≡ kind = head_of e.kind kind (e.key ++ 0 ∷ (e.value ++ rest)) after (sym whole) in
    let one = one_cstring key e.key values (e.value ++ rest) name.is_cstring.without_zero is.key.without_zero (sym name.spelled ∙ tail_of kind e.kind after (e.key ++ 0 ∷ (e.value ++ rest)) whole) in
    none e.value rest (subst (λ k. HoldsKind k e.value) heads (is.shape, is.known, is.value)) one.1

pub element_at_front : (bytes after key values value rest : List ℕ) (kind n : ℕ) → bytes ≡ kind ∷ after → BeginsWithCstring after key values → IsAtFront (HoldsKind kind) values n → value ≡ take n values → rest ≡ drop n values → BeginsWithElement bytes (made_of kind key value) rest
element_at_front bytes after key values value rest kind n front name at cut left =
    let held : HoldsKind kind value = subst (HoldsKind kind) (sym cut) at.holds in
    let parts : values ≡ value ++ rest = sym (take-append-drop n values) ∙ ap (λ w. w ++ drop n values) (sym cut) ∙ ap (λ w. value ++ w) (sym left) in
    record {
      is_element = record { shape = held.0; known = held.1; key = name.is_cstring; value = held.2 };
      spelled = front ∙ ap (λ w. kind ∷ w) (name.spelled ∙ ap (λ w. key ++ 0 ∷ w) parts) ∙ sym (spelled_out kind key value rest);
    }
