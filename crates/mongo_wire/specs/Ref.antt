-- A message that borrows its frame.
use Rattle.std.specs.Prelude.{◌≡◌, ℕ, ℤ, pos, ◌≤ℤ◌, Option, None, Some, List, length, flat_map}
use Rattle.std.specs.Io.KnownBytes.{Consumes}
use Rattle.mongo_wire.specs.Frame.{Frame, IsFrame, section_bytes}
use Rattle.mongo_wire.specs.Held.{header_of}
use Rattle.mongo_wire.specs.Outside.{State, Unstopped}
use Rattle.mongo_wire.specs.declared.message_ref.MessageRef.{MessageRef}
use Rattle.mongo_wire.specs.declared.message.Message.{Message}

-- the message shows the frame of these parts
pub record IsRefOf (frame : List ℕ) (parts : Frame) (r : MessageRef) : Type 0 where
  pub is_frame : IsFrame frame parts
  pub header_is : r.header ≡ header_of frame parts
  pub flags_are : r.flags.0 ≡ parts.flags
  pub checksum_is : r.checksum ≡ parts.checksum
  pub body_is : r.document_payload.bytes.now ≡ parts.body
  pub sections_are : r.sections.now ≡ flat_map section_bytes is_frame.sections

-- A frame within the maximum was taken of the bytes left, and nothing after it; the message shows it.
pub record IsFrameRead (maximum : ℤ) (old new : State) (r : MessageRef) : Type 0 where
  pub frame : List ℕ
  pub parts : Frame
  pub ref_of : IsRefOf frame parts r
  pub within : pos (length frame) ≤ℤ maximum
  pub taken : Consumes old.left new.left frame
  pub unstopped : Unstopped old new

-- the message shows the frame of these parts that stood before this rest, and just that frame was taken
abbrev pub ShowsAgain : List ℕ → Frame → List ℕ → Option (List ℕ) → MessageRef → Type 0
ShowsAgain frame parts rest left r = IsRefOf frame parts r × (left ≡ Some rest)

-- the same of a next frame: there was one
abbrev pub FoundAgain : List ℕ → Frame → List ℕ → Option (List ℕ) → Option MessageRef → Type 0
FoundAgain frame parts rest left None = ⊥
FoundAgain frame parts rest left (Some r) = ShowsAgain frame parts rest left r

-- a message of its own with these parts, and no request id
pub record IsOwned (parts : Frame) (m : Message) : Type 0 where
  pub body_is : m.document_payload ≡ parts.body
  pub sequences_are : m.document_sequences ≡ parts.sequences
  pub response_is : m.response_to ≡ parts.response_to
  pub flags_are : m.flags.0 ≡ parts.flags
  pub checksum_is : m.checksum ≡ parts.checksum
  pub unnumbered : m.request_id ≡ None
