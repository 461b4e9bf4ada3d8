-- What the tasks build, and what they read it from.
use Rattle.std.specs.Prelude.{◌≤◌, ◌≤ℤ◌, ℕ, pos, Some, IfSome, List, length, drop}
use Rattle.mongo_wire.specs.Outside.{State, untold}
use Rattle.mongo_wire.specs.Bytes.{first_maximum}
use Rattle.mongo_wire.specs.Frame.{Frame, IsFrame}
use Rattle.mongo_command.specs.declared.command.Command.{Command}
use Rattle.mongo_command.specs.declared.generic_arguments.GenericArguments.{GenericArguments}
use Rattle.mongo_bench.specs.declared.slice_source.SliceSource.{SliceSource}

-- how much longer a document gets at most by the key of a value under a number: its kind byte, 20 digits and the key's final zero
abbrev pub most_of_number : ℕ
most_of_number = 22

-- what a slice that is read means: what is left of it, and its count of ends; it never fails
abbrev pub slice_state : SliceSource → State
slice_state source = record (untold 0 source.ends 0) { left = Some (drop source.at source.bytes.now) }

-- the bytes are one frame, of a length that is read where no maximum is given
pub record IsWholeFrame (frame : List ℕ) : Type 0 where
  pub parts : Frame
  pub is_frame : IsFrame frame parts
  pub within : pos (length frame) ≤ℤ first_maximum

-- at most so many bytes, where a command carries a document or a text of its own
abbrev pub most_carried : ℕ
most_carried = 100

abbrev pub IsShort : List ℕ → Type 0
IsShort bytes = length bytes ≤ most_carried

-- what a command carries beside its body is short
pub record CarriesLittle (a : GenericArguments) : Type 0 where
  pub lsid : IfSome a.lsid IsShort
  pub cluster_time : IfSome a.cluster_time IsShort
  pub read_preference : IfSome a.read_preference IsShort
  pub level : IfSome a.read_concern (λ concern. IfSome concern.level IsShort)
  pub write_concern : IfSome a.write_concern IsShort
  pub recovery_token : IfSome a.recovery_token IsShort

-- a command whose document is far shorter than the greatest one
pub record IsSmall (command : Command) : Type 0 where
  pub body : length command.body ≤ 1_000_000
  pub db : IsShort command.target_db
  pub carries : CarriesLittle command.arguments
