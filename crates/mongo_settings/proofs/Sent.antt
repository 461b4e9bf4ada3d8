-- What was sent is frames that tell their own lengths.
use Rattle.std.proofs.Common.{◌≡◌, ℕ, ℤ, ◌^◌, ◌<◌, List, [], ◌∷◌, ◌++◌, length, ap, ◌∙◌, arith}
use Rattle.std.proofs.lemmas.Nat.{from_le_bytes-to_le_bytes_4}
use Rattle.std.specs.Int.{from_le_bytes, w32}
use Rattle.std.specs.List.{AllByRecursion, concat}
use Rattle.mongo_wire.specs.Frame.{Frame, IsFrame, uint32}
use Rattle.mongo_wire.specs.Bytes.{IsSentWithin, next_id}
use Rattle.mongo_command.specs.Conversation.{Said, IsSaid}
use Rattle.mongo_settings.specs.Report.{CountsItself}

-- bytes that begin with the four that spell a number
begins_with_number : (bytes more : List ℕ) (n : ℕ) → bytes ≡ uint32 n ++ more → n < 2 ^ 32 → from_le_bytes w32 bytes ≡ n
begins_with_number bytes more n spelled fits = ap (from_le_bytes w32) spelled ∙ from_le_bytes-to_le_bytes_4 n fits

pub CountsItself-from_frame : (frame : List ℕ) (parts : Frame) → IsFrame frame parts → CountsItself frame
CountsItself-from_frame frame parts is = record {
  header = omega (arith, ap length is.spelled);
  counted = begins_with_number frame _ (length frame) is.spelled (omega (arith, is.length_fits));
}

-- the bytes of a list of frames
pub record Framed (bytes : List ℕ) : Type 0 where
  pub frames : List (List ℕ)
  pub each : AllByRecursion CountsItself frames
  pub joined : bytes ≡ concat frames

pub Framed-from_sent : (first later : ℤ) (commands : List (List ℕ)) (id : ℤ) (bytes : List ℕ) → IsSentWithin first later commands id bytes → Framed bytes
Framed-from_sent first later [] id bytes none = record { frames = []; each = tt; joined = none }
Framed-from_sent first later (command ∷ commands) id bytes (frame, rest, joined, is, within, others) =
    let more = Framed-from_sent later later commands _ rest others in
    record {
      frames = frame ∷ more.frames;
      each = (CountsItself-from_frame frame _ is.is_frame, more.each);
      joined = joined ∙ ap (λ l. frame ++ l) more.joined;
    }

pub Framed-from_said : (commands : List Said) (id : ℤ) (bytes : List ℕ) → IsSaid commands id bytes → Framed bytes
Framed-from_said [] id bytes none = record { frames = []; each = tt; joined = none }
Framed-from_said (command ∷ commands) id bytes (frame, rest, joined, is, within, others) =
    let more = Framed-from_said commands (next_id id) rest others in
    record {
      frames = frame ∷ more.frames;
      each = (CountsItself-from_frame frame _ is.is_frame, more.each);
      joined = joined ∙ ap (λ l. frame ++ l) more.joined;
    }
