-- What is read of a source whose bytes are settings: all of it, or a front that is past the greatest length.
use Rattle.std.specs.Prelude.{◌≡◌, ℕ, ◌+◌, ◌<◌, ◌≤◌, Option, Some, List, length, take, drop}
use Rattle.mongo_wire.specs.Outside.{State, Rose, NoReadEnded}
use Rattle.mongo_settings.specs.Settings.{maximum_settings_length}

-- What is left of an input that was read as settings: what follows the byte past the greatest length, and so nothing of one within
-- that length.
abbrev pub LeftOver : List ℕ → Option (List ℕ) → Type 0
LeftOver input left = left ≡ Some (drop (maximum_settings_length + 1) input)

-- Of this input these bytes were held and these are left: the whole input and nothing, or one byte more than the greatest length
-- and what follows it.
abbrev pub ReadsInput : List ℕ → List ℕ → Option (List ℕ) → Type 0
ReadsInput input held left = (held ≡ take (maximum_settings_length + 1) input) × LeftOver input left

-- With these bytes held the end was met, once, just where they are within the greatest length.
pub record MeetsEndWithin (held : List ℕ) (old new : State) : Type 0 where
  pub within : length held ≤ maximum_settings_length → Rose old.ends new.ends
  pub past : maximum_settings_length < length held → NoReadEnded old new
