-- What a frame buffer holds.
use Rattle.std.specs.Prelude.{◌≡◌, ◌+◌, ◌-◌, ◌*◌, max, ℕ, ℤ, pos, ◌≤◌, ◌⊎◌, ◌≤ℤ◌, Option, None, Some, Result, Ok, Err, List, [], length, take, drop, slice_range, vec_capacity, Bool, true}
use Rattle.std.specs.Io.KnownBytes.{Consumes}
use Rattle.mongo_wire.specs.Frame.{Frame}
use Rattle.mongo_wire.specs.Header.{header_length}
use Rattle.mongo_wire.specs.Held.{IsHeldFrame}
use Rattle.mongo_wire.specs.Error.{kind_of_frame_fault}
use Rattle.mongo_wire.specs.Message.{IsUnreadable}
use Rattle.mongo_wire.specs.Outside.{State, Unstopped, risen}
use Rattle.mongo_wire.specs.Ref.{IsRefOf}
use Rattle.mongo_wire.specs.declared.fault.FrameFault.{FrameFault}
use Rattle.mongo_wire.specs.declared.message_ref.MessageRef.{MessageRef}
use Rattle.mongo_wire.specs.declared.frame_buffer.FrameBuffer.{FrameBuffer}
use Rattle.mongo_wire.specs.declared.held_frame.HeldFrame.{HeldFrame}

-- the bytes of the last frame after its header
abbrev pub held_bytes : FrameBuffer → List ℕ
held_bytes buffer = take buffer.size buffer.store.items

abbrev pub document_at : Option HeldFrame → List ℕ → List ℕ
document_at None bytes = []
document_at (Some held) bytes = slice_range bytes held.offsets.body_start held.offsets.body_end

-- the document of the body of the frame that it holds, or nothing
abbrev pub held_document : FrameBuffer → List ℕ
held_document buffer = document_at buffer.last (held_bytes buffer)

-- how many frames were taken
abbrev pub frames_taken : FrameBuffer → ℕ
frames_taken buffer = buffer.frames

-- how many bytes of memory it has
abbrev pub memory_of : FrameBuffer → ℕ
memory_of buffer = vec_capacity buffer.store

-- it holds the frame of these parts
pub record HoldsFrame (frame : List ℕ) (parts : Frame) (buffer : FrameBuffer) : Type 0 where
  pub held : HeldFrame
  pub last_is : buffer.last ≡ Some held
  pub is_held : IsHeldFrame frame parts held
  pub bytes_are : held_bytes buffer ≡ drop header_length frame

-- it holds nothing
pub record HoldsNothing (buffer : FrameBuffer) : Type 0 where
  pub none : buffer.last ≡ None
  pub start : buffer.size ≡ 0
  pub empty : held_bytes buffer ≡ []

-- A frame within the maximum was taken of the bytes left, and nothing after it; the buffer holds it.
pub record IsFrameTaken (maximum : ℤ) (old new : State) (buffer : FrameBuffer) : Type 0 where
  pub frame : List ℕ
  pub parts : Frame
  pub holds : HoldsFrame frame parts buffer
  pub within : pos (length frame) ≤ℤ maximum
  pub taken : Consumes old.left new.left frame
  pub unstopped : Unstopped old new

-- A frame of these parts stood before this rest: just it was taken, unless the source failed or memory ran out.
abbrev pub TakesAgain : {T : Type 0} → List ℕ → Frame → List ℕ → Option (List ℕ) → FrameBuffer → Result T FrameFault → Type 0
TakesAgain frame parts rest left buffer (Ok _) = HoldsFrame frame parts buffer × (left ≡ Some rest)
TakesAgain frame parts rest left buffer (Err fault) = IsUnreadable (kind_of_frame_fault fault)

-- it holds nothing, and has counted nothing
pub record IsCleared (old new : FrameBuffer) : Type 0 where
  pub nothing : HoldsNothing new
  pub frames : frames_taken new ≡ frames_taken old

-- the buffer has no more memory than it had, or than the maximum
abbrev pub StaysWithin : ℤ → FrameBuffer → FrameBuffer → Type 0
StaysWithin maximum old new = (memory_of new ≤ memory_of old) ⊎ (pos (memory_of new) ≤ℤ maximum)

-- how many bytes memory is taken for at once, at least
abbrev pub piece_length : ℕ
piece_length = 4096

-- for the bytes that were consumed the buffer gets memory for twice as many and one piece at most
abbrev pub GrowsFor : State → State → FrameBuffer → FrameBuffer → Type 0
GrowsFor source_old source_new old new = (had left : List ℕ) → source_old.left ≡ Some had → source_new.left ≡ Some left → memory_of new ≤ max (memory_of old) (piece_length + 2 * (length had - length left))

-- the buffer has all the memory that it had
abbrev pub KeepsMemory : FrameBuffer → FrameBuffer → Type 0
KeepsMemory old new = memory_of old ≤ memory_of new

-- what is read into a buffer: its memory grows only as bytes come, stays within the maximum, and none of it is given back
pub record UsesMemory (maximum : ℤ) (source_old source_new : State) (old new : FrameBuffer) : Type 0 where
  pub came : GrowsFor source_old source_new old new
  pub within : StaysWithin maximum old new
  pub keeps : KeepsMemory old new

-- a frame was taken and counted, the buffer holds it in memory for what came, and the message shows it
pub record IsReadInto (maximum : ℤ) (source_old source_new : State) (old : FrameBuffer) (message : MessageRef) (new : FrameBuffer) : Type 0 where
  pub is_taken : IsFrameTaken maximum source_old source_new new
  pub shown : IsRefOf is_taken.frame is_taken.parts message
  pub counted : frames_taken new ≡ risen (frames_taken old)
  pub memory : UsesMemory maximum source_old source_new old new

-- no frame was taken: the buffer holds nothing, in memory for what came
pub record IsUnreadInto (maximum : ℤ) (source_old source_new : State) (old new : FrameBuffer) : Type 0 where
  pub cleared : IsCleared old new
  pub memory : UsesMemory maximum source_old source_new old new

-- what the buffer is after a read
abbrev pub ReadsInto : ℤ → State → State → FrameBuffer → Result MessageRef FrameFault → FrameBuffer → Type 0
ReadsInto maximum source_old source_new old (Ok message) new = IsReadInto maximum source_old source_new old message new
ReadsInto maximum source_old source_new old (Err fault) new = IsUnreadInto maximum source_old source_new old new

-- the same of a next frame, of which there may be none
abbrev pub NextInto : ℤ → State → State → FrameBuffer → Result (Option MessageRef) FrameFault → FrameBuffer → Type 0
NextInto maximum source_old source_new old (Ok None) new = IsUnreadInto maximum source_old source_new old new
NextInto maximum source_old source_new old (Ok (Some message)) new = IsReadInto maximum source_old source_new old message new
NextInto maximum source_old source_new old (Err fault) new = IsUnreadInto maximum source_old source_new old new

-- where a frame of these parts stood before this rest
abbrev pub FindsAgain : List ℕ → Frame → List ℕ → Option (List ℕ) → FrameBuffer → Result Bool FrameFault → Type 0
FindsAgain frame parts rest left buffer (Ok found) = (found ≡ true) × HoldsFrame frame parts buffer × (left ≡ Some rest)
FindsAgain frame parts rest left buffer (Err fault) = IsUnreadable (kind_of_frame_fault fault)
