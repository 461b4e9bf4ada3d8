-- What is asked of document sequences before they are written, and the bytes that they are written as.
use Rattle.std.specs.Prelude.{◌≢◌, ℕ, ◌+◌, ◌≤◌, List, length, flat_map}
use Rattle.std.specs.List.{AllByRecursion}
use Rattle.mongo_bson.specs.Document.{IsCstring}
use Rattle.mongo_bson.specs.Framed.{IsFramed, maximum_length}
use Rattle.mongo_wire.specs.Frame.{sequence, section_bytes, sequence_bytes}
use Rattle.mongo_wire.specs.declared.document_sequence.DocumentSequence.{DocumentSequence}

abbrev pub IsWithoutZero : DocumentSequence → Type 0
IsWithoutZero s = AllByRecursion (λ b. b ≢ 0) s.identifier

abbrev pub HasIdentifier : DocumentSequence → Type 0
HasIdentifier s = IsCstring s.identifier

-- its size is one that an int32 counts
abbrev pub HasCountedSize : DocumentSequence → Type 0
HasCountedSize s = 4 + length (sequence_bytes s) ≤ maximum_length

abbrev pub HoldsDocuments : DocumentSequence → Type 0
HoldsDocuments s = AllByRecursion IsFramed s.documents

-- documents one after another
abbrev pub documents_bytes : List (List ℕ) → List ℕ
documents_bytes documents = flat_map (λ document. document) documents

-- the section of kind 1 that a sequence is written as
abbrev pub sequence_section : DocumentSequence → List ℕ
sequence_section s = section_bytes (sequence s)

-- the sections of kind 1, one after another
abbrev pub sequences_bytes : List DocumentSequence → List ℕ
sequences_bytes sequences = flat_map sequence_section sequences
