-- Documents that a server accepts, one after another, up to the first that it doesn't.
use Rattle.std.proofs.Common.{◌≡◌, ℕ, ◌+◌, ◌<◌, ◌≤◌, pos, ◌<ℤ◌, ◌≤ℤ◌, List, [], ◌∷◌, ◌++◌, length, take, drop, get_or, ap, ◌∙◌, sym, subst, append_assoc, take-append-drop, arith}
use Rattle.std.specs.List.{All}
use Rattle.std.proofs.lemmas.Int.{ints}
use Rattle.std.proofs.lemmas.List.{take_more, length-take}
use Rattle.std.proofs.lemmas.List.Elements.{All-from_recursion, All-append}
use Rattle.mongo_command.specs.declared.stream_description.StreamDescription.{StreamDescription}
use Rattle.mongo_exec.specs.Insert.{Insert, insert_size}
use Rattle.mongo_exec.specs.InsertMany.{IsAccepted, IsFirstUnaccepted}
use Rattle.mongo_exec.proofs.Sizes.{insert_size-one}

pub one_accepted : (d : StreamDescription) (insert : Insert) (document : List ℕ) (bare frame : ℕ) → bare ≡ insert_size insert [] → pos frame ≡ d.max_message_size_bytes → pos (length document) ≤ℤ d.max_bson_object_size → bare + length document ≤ frame → IsAccepted d insert document
one_accepted d insert document bare frame is same whole room = record {
  whole = whole;
  alone = subst (λ m. pos (insert_size insert (document ∷ [])) ≤ℤ m) same (omega (arith, ints, insert_size-one insert document, is, room));
}

pub one_too_long : (d : StreamDescription) (insert : Insert) (document : List ℕ) (bare frame : ℕ) → bare ≡ insert_size insert [] → pos frame ≡ d.max_message_size_bytes → frame < bare + length document → d.max_message_size_bytes <ℤ pos (insert_size insert (document ∷ []))
one_too_long d insert document bare frame is same over = subst (λ m. m <ℤ pos (insert_size insert (document ∷ []))) same (omega (arith, ints, insert_size-one insert document, is, over))

parted : (documents : List (List ℕ)) (i : ℕ) (document : List ℕ) → i < length documents → document ≡ get_or documents i document → documents ≡ take i documents ++ document ∷ drop (i + 1) documents
parted documents i document within at =
    sym (take-append-drop (i + 1) documents) ∙ ap (λ front. front ++ drop (i + 1) documents) (take_more documents i document within ∙ ap (λ y. take i documents ++ y ∷ []) (sym at)) ∙ append_assoc (take i documents) (document ∷ []) (drop (i + 1) documents)

pub first_unaccepted : (d : StreamDescription) (insert : Insert) (documents : List (List ℕ)) (i place : ℕ) (document : List ℕ) → i < length documents → document ≡ get_or documents i document → place ≡ i → All (IsAccepted d insert) (take i documents) → IsFirstUnaccepted d insert documents place document
first_unaccepted d insert documents i place document within at is accepted = record {
  before = take i documents;
  after = drop (i + 1) documents;
  joined = parted documents i document within at;
  place_is = omega (arith, is, length-take i documents, within);
  accepted = accepted;
}

pub accepted_more : (d : StreamDescription) (insert : Insert) (documents : List (List ℕ)) (i : ℕ) (document : List ℕ) → i < length documents → document ≡ get_or documents i document → All (IsAccepted d insert) (take i documents) → IsAccepted d insert document → All (IsAccepted d insert) (take (i + 1) documents)
accepted_more d insert documents i document within at all one =
    subst (All (IsAccepted d insert)) (sym (take_more documents i document within ∙ ap (λ y. take i documents ++ y ∷ []) (sym at)))
    (All-append (IsAccepted d insert) (take i documents) (document ∷ []) all (All-from_recursion (IsAccepted d insert) (document ∷ []) (one, tt)))
