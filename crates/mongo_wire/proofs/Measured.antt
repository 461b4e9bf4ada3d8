-- The length of a message's frame, and what was found of its sections.
use Rattle.std.proofs.Common.{◌≡◌, ℕ, ◌+◌, ◌-◌, ◌^◌, ◌≤◌, min, List, [], ◌∷◌, ◌++◌, length, map, flat_map, ap, length-append, arith}
use Rattle.std.proofs.lemmas.List.Folds.{flat_map-map}
use Rattle.std.specs.List.{AllByRecursion}
use Rattle.mongo_bson.specs.Framed.{maximum_length}
use Rattle.mongo_wire.specs.Frame.{IsSection, sequence, section_bytes}
use Rattle.mongo_wire.specs.Measure.{HasIdentifier, HasCountedSize, HoldsDocuments, sequences_bytes}
use Rattle.mongo_wire.specs.Message.{frame_length, checksum_bytes}
use Rattle.mongo_wire.specs.declared.document_sequence.DocumentSequence.{DocumentSequence}
use Rattle.mongo_wire.specs.declared.message.Message.{Message}

pub frame_length_is : (m : Message) → frame_length m ≡ 21 + length m.document_payload + length (sequences_bytes m.document_sequences) + length (checksum_bytes m.checksum)
frame_length_is m =
    let rest = flat_map section_bytes (map sequence m.document_sequences) in
    let same : length rest ≡ length (sequences_bytes m.document_sequences) = ap length (flat_map-map section_bytes sequence m.document_sequences) in
    omega (arith, same, length-append ((0 ∷ m.document_payload) ++ rest) (checksum_bytes m.checksum), length-append (0 ∷ m.document_payload) rest)

-- sums that stay at the last number are right below it, and never too large
pub sum_below : (body size sum sequences whole : ℕ) → size ≡ min sequences (2 ^ 64 - 1) → whole ≡ min (21 + body + size + sum) (2 ^ 64 - 1) → whole ≤ maximum_length → whole ≡ 21 + body + sequences + sum
sum_below body size sum sequences whole p q r = omega arith

pub sum_within : (body size sum sequences whole : ℕ) → size ≡ min sequences (2 ^ 64 - 1) → whole ≡ min (21 + body + size + sum) (2 ^ 64 - 1) → whole ≤ 21 + body + sequences + sum
sum_within body size sum sequences whole p q = omega arith

pub sections_good : (sequences : List DocumentSequence) → AllByRecursion HasIdentifier sequences → AllByRecursion HoldsDocuments sequences → AllByRecursion HasCountedSize sequences → AllByRecursion IsSection (map sequence sequences)
sections_good [] p q r = tt
sections_good (s ∷ sequences) p q r = (record { name = p.0; each = q.0; size = r.0 }, sections_good sequences p.1 q.1 r.1)
