-- What reading and writing a message answers.
use Rattle.std.specs.Prelude.{◌≡◌, ℕ, ℤ, pos, ◌+◌, ◌%◌, ◌≤ℤ◌, ◌<ℤ◌, Option, None, Some, Result, Ok, Err, List, [], ◌∷◌, ◌++◌, length, map, flat_map, unwrap_or, bit_and, IfSome, ⊤}
use Rattle.std.specs.List.{AllByRecursion}
use Rattle.std.specs.Io.KnownBytes.{Appends, Consumes}
use Rattle.mongo_wire.specs.Outside.{State, Rose, Unstopped, FailsToRead, MeetsEnd, AppendsFront, IsFlushed}
use Rattle.mongo_wire.specs.Frame.{Frame, IsFrame, IsFrameWith, Section, body, sequence, section_bytes, int32, uint32, message_code, known_flags}
use Rattle.mongo_wire.specs.Bytes.{next_id}
use Rattle.mongo_wire.specs.Measure.{IsWithoutZero, HasCountedSize}
use Rattle.mongo_wire.specs.Rows.{TakesRow, TakesStarted, TakesUnfinished, IsEmptied}
use Rattle.mongo_wire.specs.declared.message.Message.{Message}
use Rattle.mongo_wire.specs.declared.error.Error.{Error}
use Rattle.mongo_wire.specs.declared.error.ErrorKind.{ErrorKind}
use Rattle.mongo_wire.specs.declared.error.ErrorKind.TheVariants.{ReadFault, WriteFault, EndOfInput, OutOfMemory, InvalidArgument, InvalidResponse}
use Rattle.mongo_wire.specs.declared.fault.ArgumentFault.{ArgumentFault}
use Rattle.mongo_wire.specs.declared.fault.ArgumentFault.TheVariants.{IdentifierHasZero, SequenceTooLong, MaximumNegative, TooLong}

-- ---- reading

-- the parts of a message's frame under this request id; its flags are those that have a meaning
abbrev pub parts_of : ℤ → Message → Frame
parts_of id m = record { request_id = id; response_to = m.response_to; flags = bit_and m.flags.0 known_flags; body = m.document_payload; sequences = m.document_sequences; checksum = m.checksum }

-- A frame within the maximum was taken of the bytes left, and nothing after it; the message has its parts, and no flag
-- without a meaning.
pub record IsRead (maximum : ℤ) (old new : State) (m : Message) : Type 0 where
  pub frame : List ℕ
  pub id : ℤ
  pub is_frame : IsFrame frame (parts_of id m)
  pub within : pos (length frame) ≤ℤ maximum
  pub taken : Consumes old.left new.left frame
  pub unstopped : Unstopped old new
  pub flags_known : m.flags.0 ≡ bit_and m.flags.0 known_flags
  pub unnumbered : m.request_id ≡ None

-- Why no frame was read, and what that took: the row of the bytes that were taken, or how far the reading had come where
-- the source failed or memory ran out.
abbrev pub ReadRefused : ErrorKind → ℤ → State → State → Type 0
ReadRefused ReadFault maximum old new = FailsToRead old new × TakesUnfinished maximum old.left new.left
ReadRefused OutOfMemory maximum old new = Unstopped old new × TakesStarted maximum old.left new.left
ReadRefused EndOfInput maximum old new = MeetsEnd old new × TakesRow EndOfInput maximum old.left new.left × IsEmptied new.left
ReadRefused (InvalidResponse fault) maximum old new = Unstopped old new × TakesRow (InvalidResponse fault) maximum old.left new.left
ReadRefused (InvalidArgument fault) maximum old new = Unstopped old new × TakesRow (InvalidArgument fault) maximum old.left new.left
ReadRefused kind maximum old new = ⊥

-- this holds of each frame within the maximum that stands before a rest
abbrev pub WhereFrameStands : ℤ → State → (List ℕ → List ℕ → Frame → Type 0) → Type 0
WhereFrameStands maximum source Holds = (frame rest : List ℕ) (parts : Frame) → source.left ≡ Some (frame ++ rest) → IsFrame frame parts → pos (length frame) ≤ℤ maximum → Holds frame rest parts

-- a fault of reading, or want of memory
abbrev pub IsUnreadable : ErrorKind → Type 0
IsUnreadable ReadFault = ⊤
IsUnreadable OutOfMemory = ⊤
IsUnreadable kind = ⊥

-- A frame of these parts stood before this rest: just it was read, unless the source failed or memory ran out.
abbrev pub ReadsAgain : Frame → List ℕ → Option (List ℕ) → Result Message Error → Type 0
ReadsAgain parts rest left (Ok m) = (parts_of parts.request_id m ≡ parts) × (left ≡ Some rest)
ReadsAgain parts rest left (Err e) = IsUnreadable e.kind

-- ---- writing

-- the body's section, then the sequences in their order
abbrev pub sections_of : Message → List Section
sections_of m = body m.document_payload ∷ map sequence m.document_sequences

abbrev pub checksum_bytes : Option ℕ → List ℕ
checksum_bytes None = []
checksum_bytes (Some sum) = uint32 sum

-- what follows the flags
abbrev pub content_of : Message → List ℕ
content_of m = flat_map section_bytes (sections_of m) ++ checksum_bytes m.checksum

-- the header's 16 bytes, the flags' 4, and the rest
abbrev pub frame_length : Message → ℕ
frame_length m = 20 + length (content_of m)

-- the bytes of a message's frame under this request id before its checksum: the header, the flags and the sections
abbrev pub before_checksum : ℤ → Message → List ℕ
before_checksum id m = uint32 (frame_length m) ++ (int32 id ++ (int32 m.response_to ++ (uint32 message_code ++ (uint32 (bit_and m.flags.0 known_flags) ++ flat_map section_bytes (sections_of m)))))

-- the bytes that it is written as
abbrev pub written_frame : ℤ → Message → List ℕ
written_frame id m = before_checksum id m ++ checksum_bytes m.checksum

-- a frame of the message under this id, whose flag word holds the message's flags and no other bit
abbrev pub IsFrameOf : ℤ → Message → List ℕ → Type 0
IsFrameOf id m frame = IsFrameWith frame (parts_of id m) (bit_and m.flags.0 known_flags)

-- a checksum is there only where CHECKSUM_PRESENT, bit 0, is set
abbrev pub TellsChecksum : Message → Type 0
TellsChecksum m = IfSome m.checksum (λ sum. bit_and m.flags.0 known_flags % 2 ≡ 1)

-- the id that a message is written with, and the next id after it
abbrev pub id_of : Message → ℤ → ℤ
id_of m next = unwrap_or m.request_id next

abbrev pub id_after : Option ℤ → ℤ → ℤ
id_after None next = next_id next
id_after (Some id) next = next

-- no identifier holds a zero byte
abbrev pub HasNames : Message → Type 0
HasNames m = AllByRecursion IsWithoutZero m.document_sequences

-- each sequence's size is one that an int32 counts
abbrev pub HasSizes : Message → Type 0
HasSizes m = AllByRecursion HasCountedSize m.document_sequences

-- the message can be written within the maximum, which isn't negative
pub record Fits (maximum : ℤ) (m : Message) : Type 0 where
  pub names : HasNames m
  pub sizes : HasSizes m
  pub positive : pos 0 ≤ℤ maximum
  pub within : pos (frame_length m) ≤ℤ maximum

-- why it can't, in this order
abbrev pub ArgumentRow : ArgumentFault → ℤ → Message → Type 0
ArgumentRow IdentifierHasZero maximum m = HasNames m → ⊥
ArgumentRow SequenceTooLong maximum m = HasNames m × (HasSizes m → ⊥)
ArgumentRow MaximumNegative maximum m = HasNames m × HasSizes m × (maximum <ℤ pos 0)
ArgumentRow TooLong maximum m = HasNames m × HasSizes m × (pos 0 ≤ℤ maximum) × (maximum <ℤ pos (frame_length m))
ArgumentRow fault maximum m = ⊥

-- what a write left that was cut after the message was judged: a front of the frame is written, and its id is drawn
pub record WriteCut (maximum : ℤ) (m : Message) (old new : State) (before after : ℤ) : Type 0 where
  pub fits : Fits maximum m
  pub front : AppendsFront old.written new.written (written_frame (id_of m before) m)
  pub drawn : after ≡ id_after m.request_id before

-- Why a write was refused, and what it left. Before the message is judged nothing is written and no id is drawn; want of
-- memory is the sink's.
abbrev pub WriteRefused : ErrorKind → ℤ → Message → State → State → ℤ → ℤ → Type 0
WriteRefused (InvalidArgument fault) maximum m old new before after = ArgumentRow fault maximum m × (new ≡ old) × (after ≡ before)
WriteRefused WriteFault maximum m old new before after = Rose old.write_faults new.write_faults × WriteCut maximum m old new before after
WriteRefused OutOfMemory maximum m old new before after = (new.write_faults ≡ old.write_faults) × WriteCut maximum m old new before after
WriteRefused kind maximum m old new before after = ⊥

-- A message was written: it fits, its frame stands at the end and is flushed, and its id is drawn.
pub record Writes (maximum : ℤ) (m : Message) (old new : State) (before after : ℤ) : Type 0 where
  pub fits : Fits maximum m
  pub appended : Appends old.written new.written (written_frame (id_of m before) m)
  pub flushed_is : IsFlushed new
  pub writes : new.write_faults ≡ old.write_faults
  pub drawn : after ≡ id_after m.request_id before
