-- The grammar of a frame, by the OP_MSG specification: a header of int32 length, request id, response-to and op code, a
-- uint32 of flags, sections, and an optional uint32 checksum, all low byte first.
use Rattle.std.specs.Prelude.{◌≡◌, ℕ, ℤ, ◌+◌, ◌%◌, ◌^◌, ◌<◌, ◌≤◌, Option, None, Some, List, [], ◌∷◌, ◌++◌, length, flat_map, bit_and, FitsSigned}
use Rattle.std.specs.List.{AllByRecursion}
use Rattle.std.specs.Int.{to_le_bytes, cast_unsigned, w32}
use Rattle.mongo_bson.specs.Framed.{IsFramed, maximum_length}
use Rattle.mongo_bson.specs.Document.{IsCstring}
use Rattle.mongo_wire.specs.declared.document_sequence.DocumentSequence.{DocumentSequence}

-- four bytes, low byte first
abbrev pub int32 : ℤ → List ℕ
int32 z = to_le_bytes w32 (cast_unsigned w32 z)

abbrev pub uint32 : ℕ → List ℕ
uint32 n = to_le_bytes w32 n

abbrev pub message_code : ℕ
message_code = 2013

-- CHECKSUM_PRESENT, bit 0
abbrev pub checksum_present_bit : ℕ
checksum_present_bit = 1

-- MORE_TO_COME, bit 1
abbrev pub more_to_come_bit : ℕ
more_to_come_bit = 2

-- EXHAUST_ALLOWED, bit 16
abbrev pub exhaust_allowed_bit : ℕ
exhaust_allowed_bit = 65536

-- the flags that have a meaning
abbrev pub known_flags : ℕ
known_flags = checksum_present_bit + more_to_come_bit + exhaust_allowed_bit

-- a section: the body, kind 0, or a document sequence, kind 1
pub data Section : Type 0 where
  body : List ℕ → Section
  sequence : DocumentSequence → Section

-- what a document sequence's size counts beside itself
abbrev pub sequence_bytes : DocumentSequence → List ℕ
sequence_bytes s = s.identifier ++ (0 ∷ flat_map (λ document. document) s.documents)

abbrev pub section_bytes : Section → List ℕ
section_bytes (body document) = 0 ∷ document
section_bytes (sequence s) = 1 ∷ (uint32 (4 + length (sequence_bytes s)) ++ sequence_bytes s)

pub record IsSequence (s : DocumentSequence) : Type 0 where
  pub name : IsCstring s.identifier
  pub each : AllByRecursion IsFramed s.documents
  pub size : 4 + length (sequence_bytes s) ≤ maximum_length

abbrev pub IsSection : Section → Type 0
IsSection (body document) = IsFramed document
IsSection (sequence s) = IsSequence s

-- the documents of the sections of kind 0
abbrev pub bodies : List Section → List (List ℕ)
bodies [] = []
bodies (body document ∷ sections) = document ∷ bodies sections
bodies (sequence s ∷ sections) = bodies sections

-- the sections of kind 1
abbrev pub sequences_of : List Section → List DocumentSequence
sequences_of [] = []
sequences_of (body document ∷ sections) = sequences_of sections
sequences_of (sequence s ∷ sections) = s ∷ sequences_of sections

-- the parts of a frame
pub record Frame : Type 0 where
  pub request_id : ℤ
  pub response_to : ℤ
  pub flags : ℕ
  pub body : List ℕ
  pub sequences : List DocumentSequence
  pub checksum : Option ℕ

-- no bytes for no checksum; four for one, which stands only where CHECKSUM_PRESENT is set
abbrev pub IsChecksum : ℕ → List ℕ → Option ℕ → Type 0
IsChecksum word tail None = tail ≡ []
IsChecksum word tail (Some sum) = (word % 2 ≡ 1) × (sum < 2 ^ 32) × (tail ≡ uint32 sum)

-- f is a frame of these parts
pub record IsFrame (f : List ℕ) (parts : Frame) : Type 0 where
  pub word : ℕ
  pub sections : List Section
  pub tail : List ℕ
  pub spelled : f ≡ uint32 (length f) ++ (int32 parts.request_id ++ (int32 parts.response_to ++ (uint32 message_code ++ (uint32 word ++ (flat_map section_bytes sections ++ tail)))))
  pub length_fits : length f ≤ maximum_length
  pub id_fits : FitsSigned w32 parts.request_id
  pub response_fits : FitsSigned w32 parts.response_to
  pub word_fits : word < 2 ^ 32
  pub flags_are : parts.flags ≡ bit_and word known_flags
  pub each : AllByRecursion IsSection sections
  pub one_body : bodies sections ≡ parts.body ∷ []
  pub sequences_are : sequences_of sections ≡ parts.sequences
  pub checksum_is : IsChecksum word tail parts.checksum

-- f is a frame of these parts whose flag word is this one
pub record IsFrameWith (f : List ℕ) (parts : Frame) (flag_word : ℕ) : Type 0 where
  pub is_frame : IsFrame f parts
  pub word_is : is_frame.word ≡ flag_word
