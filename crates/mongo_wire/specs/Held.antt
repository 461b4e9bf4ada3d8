-- A frame by places in what follows its header.
use Rattle.std.specs.Prelude.{◌≡◌, ◌≤◌, ℕ, pos, List, length, drop, slice_range, flat_map, bit_and}
use Rattle.mongo_bson.specs.Framed.{IsFramed}
use Rattle.mongo_wire.specs.Frame.{Frame, IsFrame, section_bytes, known_flags}
use Rattle.mongo_wire.specs.Header.{header_length}
use Rattle.mongo_wire.specs.Content.{IsAt}
use Rattle.mongo_wire.specs.declared.header.Header.{Header}
use Rattle.mongo_wire.specs.declared.op_code.OpCode.TheVariants.{Message}
use Rattle.mongo_wire.specs.declared.held_frame.HeldFrame.{HeldFrame}

-- the header of a frame of these parts
abbrev pub header_of : List ℕ → Frame → Header
header_of frame parts = record { length = pos (length frame); request_id = parts.request_id; response_to = parts.response_to; op_code = Message }

-- the frame of these parts, of which this is known
pub record IsHeldFrame (frame : List ℕ) (parts : Frame) (held : HeldFrame) : Type 0 where
  pub is_frame : IsFrame frame parts
  pub header_is : held.header ≡ header_of frame parts
  pub flags_are : bit_and held.word known_flags ≡ parts.flags
  pub checksum_is : held.checksum ≡ parts.checksum
  pub body_at : IsAt (drop header_length frame) parts.body held.offsets.body_start held.offsets.body_end
  pub sections_at : IsAt (drop header_length frame) (flat_map section_bytes is_frame.sections) 4 held.offsets.sections_end

-- the places of its parts lie in the bytes, and a document lies at the body's
pub record LiesIn (bytes : List ℕ) (held : HeldFrame) : Type 0 where
  pub body_ordered : held.offsets.body_start ≤ held.offsets.body_end
  pub body_within : held.offsets.body_end ≤ length bytes
  pub flags_before : 4 ≤ held.offsets.sections_end
  pub sections_within : held.offsets.sections_end ≤ length bytes
  pub framed : IsFramed (slice_range bytes held.offsets.body_start held.offsets.body_end)

-- the bytes are no frame of the grammar
abbrev pub NoFrame : List ℕ → Type 0
NoFrame bytes = (parts : Frame) → IsFrame bytes parts → ⊥

-- some frame's parts
abbrev pub IsHeld : List ℕ → HeldFrame → Type 0
IsHeld frame held = (parts : Frame) × IsHeldFrame frame parts held
