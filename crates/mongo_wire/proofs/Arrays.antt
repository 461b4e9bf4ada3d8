-- Sequences that are put into a document as arrays.
use Rattle.std.proofs.Common.{◌≡◌, ◌≢◌, ℕ, ◌+◌, ◌^◌, ◌<◌, ◌≤◌, Result, Ok, Err, IfOk, IfErr, List, ◌++◌, length, take, get_or, refl, sym, ap, subst, ◌∙◌, Contains, append_assoc, length-append, arith}
use Rattle.std.proofs.lemmas.List.{get_or_default}
use Rattle.std.proofs.lemmas.List.Elements.{All-from_recursion, All-contains}
use Rattle.std.specs.List.{AllByRecursion}
use Rattle.mongo_bson.specs.Framed.{element_bytes, enclosed, IsFramed, maximum_length}
use Rattle.mongo_bson.specs.Document.{spell}
use Rattle.mongo_bson.specs.Refusals.{AppendRefuses, PushRefuses}
use Rattle.mongo_bson.specs.declared.fault.BsonFault.{BsonFault}
use Rattle.mongo_bson.specs.declared.fault.BsonFault.TheVariants.{Malformed, KeyHasZero, TooLong, DuplicateKey, UpdateEmpty, UpdateNotModifiers, ReplacementHasModifiers, OutOfMemory}
use Rattle.mongo_bson.proofs.Enclosed.{length-enclosed, element_bytes-enclosed, enclosed-element_bytes}
use Rattle.mongo_wire.specs.Error.{kind_of_fault}
use Rattle.mongo_wire.specs.JoinedDocument.{sequence_element, arrays_bytes, JoinRefused}
use Rattle.mongo_wire.specs.Measure.{IsWithoutZero}
use Rattle.mongo_wire.specs.Message.{HasNames}
use Rattle.mongo_wire.specs.declared.message.Message.{Message}
use Rattle.mongo_wire.specs.declared.document_sequence.DocumentSequence.{DocumentSequence}
use Rattle.mongo_wire.proofs.Passed.{joined_more, length_within}

-- the fault of a result, whatever its value's type
pub same_fault : {T : Type 0} {e : BsonFault} (fault : BsonFault) → (let r : Result T BsonFault = Err fault in r) ≡ Err e → fault ≡ e
same_fault fault same = cc

-- a key without a zero is refused for no zero
pub push_alone : {T : Type 0} (r : Result T BsonFault) → IfErr r AppendRefuses → ((r ≡ Err KeyHasZero) → ⊥) → IfErr r PushRefuses
push_alone (Ok _) p no_zero = tt
push_alone (Err KeyHasZero) p no_zero = absurd (no_zero refl)
push_alone (Err TooLong) p no_zero = tt
push_alone (Err OutOfMemory) p no_zero = tt
push_alone (Err Malformed) p no_zero = absurd p
push_alone (Err DuplicateKey) p no_zero = absurd p
push_alone (Err UpdateEmpty) p no_zero = absurd p
push_alone (Err UpdateNotModifiers) p no_zero = absurd p
push_alone (Err ReplacementHasModifiers) p no_zero = absurd p

pub without_zero : (key identifier : List ℕ) → key ≡ identifier → AllByRecursion (λ b. b ≢ 0) identifier → Contains key 0 → ⊥
without_zero key identifier is all holds = All-contains (λ b. b ≢ 0) identifier 0 (All-from_recursion (λ b. b ≢ 0) identifier all) (rw (sym is) holds) refl

abbrev spelled_array : DocumentSequence → List ℕ
spelled_array s = spell (sequence_element s)

-- one more sequence is in the document
pub array_added : (sequences : List DocumentSequence) (i : ℕ) (s : DocumentSequence) → i < length sequences → s ≡ get_or sequences i s
    → (body old new : List ℕ) → old ≡ enclosed (body ++ arrays_bytes (take i sequences)) → length old ≤ maximum_length → new ≡ enclosed (element_bytes old ++ spelled_array s)
    → new ≡ enclosed (body ++ arrays_bytes (take (i + 1) sequences))
array_added sequences i s within at body old new p short q =
    let before = body ++ arrays_bytes (take i sequences) in
    let fits : length before + 5 < 2 ^ 32 = omega (arith, length-enclosed before, ap length p, short) in
    q ∙ ap (λ b. enclosed (b ++ spelled_array s)) (ap element_bytes p ∙ element_bytes-enclosed before fits)
    ∙ ap enclosed (append_assoc body (arrays_bytes (take i sequences)) (spelled_array s) ∙ ap (λ w. body ++ w) (sym (joined_more spelled_array sequences i s within at)))

-- where a sequence has no room, all of them have none
pub all_too_long : (sequences : List DocumentSequence) (i : ℕ) (s : DocumentSequence) → i < length sequences → s ≡ get_or sequences i s
    → (body old : List ℕ) → old ≡ enclosed (body ++ arrays_bytes (take i sequences)) → maximum_length < length old + length (spelled_array s)
    → maximum_length < length (enclosed (body ++ arrays_bytes sequences))
all_too_long sequences i s within at body old p long =
    let before = arrays_bytes (take i sequences) in
    omega (arith, long, ap length p, length-enclosed (body ++ before), length-enclosed (body ++ arrays_bytes sequences), length-append body before, length-append body (arrays_bytes sequences), length_within spelled_array sequences i s within at)

-- a copy of a document is what its body makes, since its bytes are bytes
pub copied_whole : (bytes : List ℕ) (r : Result (List ℕ) BsonFault) → IsFramed bytes → ((i : ℕ) → get_or bytes i 0 < 256) → IfOk r (λ d. d ≡ bytes) → IfOk r (λ d. d ≡ enclosed (element_bytes bytes))
copied_whole bytes (Ok document) framed small is = is ∙ sym (enclosed-element_bytes bytes framed (λ i other within. subst (λ byte. byte < 256) (get_or_default bytes i 0 other within) (small i)))
copied_whole bytes (Err fault) framed small is = tt

pub copied_framed : (bytes : List ℕ) (r : Result (List ℕ) BsonFault) → IsFramed bytes → IfOk r (λ d. d ≡ bytes) → IfOk r (λ d. IsFramed d)
copied_framed bytes (Ok document) framed is = subst IsFramed (sym is) framed
copied_framed bytes (Err fault) framed is = tt

-- why the joined document isn't made, where the names hold no zero
pub join_refused : (fault : BsonFault) (m : Message) (sequences : List DocumentSequence) → HasNames m → sequences ≡ m.document_sequences
    → PushRefuses fault → (fault ≡ TooLong → maximum_length < length (enclosed (element_bytes m.document_payload ++ arrays_bytes sequences))) → JoinRefused (kind_of_fault fault) m
join_refused TooLong m sequences names same refused long = (names, subst (λ s. maximum_length < length (enclosed (element_bytes m.document_payload ++ arrays_bytes s))) same (long refl))
join_refused OutOfMemory m sequences names same refused long = names
join_refused Malformed m sequences names same refused long = absurd refused
join_refused KeyHasZero m sequences names same refused long = absurd refused
join_refused DuplicateKey m sequences names same refused long = absurd refused
join_refused UpdateEmpty m sequences names same refused long = absurd refused
join_refused UpdateNotModifiers m sequences names same refused long = absurd refused
join_refused ReplacementHasModifiers m sequences names same refused long = absurd refused

-- the message has names where a slice of its sequences has them
pub has_names : (m : Message) (sequences : List DocumentSequence) → sequences ≡ m.document_sequences → AllByRecursion IsWithoutZero sequences → HasNames m
has_names m sequences same named = subst (AllByRecursion IsWithoutZero) same named
