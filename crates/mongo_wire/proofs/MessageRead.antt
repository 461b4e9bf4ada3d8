-- What reading a message of its own says.
use Rattle.std.proofs.Common.{◌≡◌, ℕ, ℤ, pos, ◌≤ℤ◌, Option, None, Some, Result, Ok, Err, IfOk, IfErr, List, ◌++◌, length, bit_and, refl, sym, ap, ◌∙◌, subst, inr, arith}
use Rattle.std.proofs.lemmas.Int.{ints}
use Rattle.std.specs.Io.KnownBytes.{Consumes}
use Rattle.mongo_wire.specs.Frame.{Frame, IsFrame, known_flags}
use Rattle.mongo_wire.specs.Message.{parts_of, IsRead, ReadRefused, ReadsAgain}
use Rattle.mongo_wire.specs.Outside.{State}
use Rattle.mongo_wire.specs.declared.error.ErrorKind.TheVariants.{OutOfMemory}
use Rattle.mongo_wire.specs.Buffer.{IsFrameTaken}
use Rattle.mongo_wire.specs.Ref.{IsOwned}
use Rattle.mongo_wire.specs.declared.message.Message.{Message}
use Rattle.mongo_wire.specs.declared.frame_buffer.FrameBuffer.{FrameBuffer}
use Rattle.mongo_wire.specs.declared.error.Error.{Error}
use Rattle.mongo_wire.proofs.IsFrame.{known_twice}
use Rattle.mongo_wire.proofs.OneFrame.{one_frame, same_parts, frame_row, frame_tells_length, least_frame}
use Rattle.mongo_wire.proofs.FrameRead.{no_refused_frame}

copied_flags : (frame : List ℕ) (parts : Frame) (m : Message) → IsFrame frame parts → IsOwned parts m → parts.flags ≡ bit_and m.flags.0 known_flags
copied_flags frame parts m is owned = is.flags_are ∙ sym (known_twice is.word) ∙ ap (λ w. bit_and w known_flags) (sym is.flags_are ∙ sym owned.flags_are)

-- the parts of a copy are the frame's
pub read_parts : (frame : List ℕ) (parts : Frame) (m : Message) → IsFrame frame parts → IsOwned parts m → parts ≡ parts_of parts.request_id m
read_parts frame parts m is owned =
    let flags : parts.flags ≡ bit_and m.flags.0 known_flags = copied_flags frame parts m is owned in
    same_parts parts.request_id parts.request_id parts.response_to m.response_to parts.flags (bit_and m.flags.0 known_flags) parts.body m.document_payload parts.sequences m.document_sequences parts.checksum m.checksum
    refl (sym owned.response_is) flags (sym owned.body_is) (sym owned.sequences_are) (sym owned.checksum_is)

pub read_whole : (maximum : ℤ) (old new : State) (buffer : FrameBuffer) (m : Message) (read : IsFrameTaken maximum old new buffer) → IsOwned read.parts m → IsRead maximum old new m
read_whole maximum old new buffer m read owned = record {
  frame = read.frame;
  id = read.parts.request_id;
  is_frame = subst (IsFrame read.frame) (read_parts read.frame read.parts m read.holds.is_held.is_frame owned) read.holds.is_held.is_frame;
  within = read.within;
  taken = read.taken;
  unstopped = read.unstopped;
  flags_known = owned.flags_are ∙ copied_flags read.frame read.parts m read.holds.is_held.is_frame owned;
  unnumbered = owned.unnumbered;
}
