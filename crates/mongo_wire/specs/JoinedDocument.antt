-- A message as one document: its body, and each of its sequences as an array under its identifier.
use Rattle.std.specs.Prelude.{ℕ, ◌<◌, List, ◌++◌, length, flat_map}
use Rattle.mongo_bson.specs.Framed.{element_bytes, enclosed, maximum_length}
use Rattle.mongo_bson.specs.Document.{Element, spell}
use Rattle.mongo_bson.specs.Array.{array_of, document_entries}
use Rattle.mongo_wire.specs.Message.{HasNames}
use Rattle.mongo_wire.specs.declared.document_sequence.DocumentSequence.{DocumentSequence}
use Rattle.mongo_wire.specs.declared.message.Message.{Message}
use Rattle.mongo_wire.specs.declared.error.ErrorKind.{ErrorKind}
use Rattle.mongo_wire.specs.declared.error.ErrorKind.TheVariants.{InvalidArgument, OutOfMemory}
use Rattle.mongo_wire.specs.declared.fault.ArgumentFault.TheVariants.{IdentifierHasZero, Bson}
use Rattle.mongo_bson.specs.declared.fault.BsonFault.TheVariants.{TooLong}

-- the array of the documents, kind 0x04
abbrev pub sequence_element : DocumentSequence → Element
sequence_element s = record { kind = 0x04; key = s.identifier; value = array_of (document_entries s.documents) }

abbrev pub arrays_bytes : List DocumentSequence → List ℕ
arrays_bytes sequences = flat_map (λ s. spell (sequence_element s)) sequences

abbrev pub joined_document : Message → List ℕ
joined_document m = enclosed (element_bytes m.document_payload ++ arrays_bytes m.document_sequences)

-- an identifier holds a zero, or else the document passes 2147483647 bytes, or memory ran out
abbrev pub JoinRefused : ErrorKind → Message → Type 0
JoinRefused (InvalidArgument IdentifierHasZero) m = HasNames m → ⊥
JoinRefused (InvalidArgument (Bson TooLong)) m = HasNames m × (maximum_length < length (joined_document m))
JoinRefused OutOfMemory m = HasNames m
JoinRefused kind m = ⊥
