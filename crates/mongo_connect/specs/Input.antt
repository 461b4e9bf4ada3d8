-- The first line of an input. It ends before a line feed or at the input's end, and is cut one byte past the greatest length of
-- settings.
use Rattle.std.specs.Prelude.{◌≡◌, ℕ, ◌==◌, ◌+◌, ◌<◌, ◌≤◌, Bool, nat_le, if◌then◌else◌, Option, None, Some, List, length, take, drop}
use Rattle.std.specs.Io.KnownBytes.{Consumes}
use Rattle.std.specs.List.{before_first, after_first, position_or_len}
use Rattle.mongo_wire.specs.Outside.{State, Rose, ReadsOn, NoReadFailed, NoReadEnded, EndsAtMostOnce}
use Rattle.mongo_settings.specs.Run.{GaveInput}
use Rattle.mongo_settings.specs.Settings.{maximum_settings_length}

abbrev pub is_line_feed : ℕ → Bool
is_line_feed byte = byte == 10

-- what is read as the line
unfoldable pub line_of : List ℕ → List ℕ
line_of input = take (maximum_settings_length + 1) (before_first is_line_feed input)

-- what follows it: of a line within the greatest length what stands after the line feed, of a longer one what stands after the cut
unfoldable pub after_line : List ℕ → List ℕ
after_line input = if nat_le (length (before_first is_line_feed input)) maximum_settings_length then after_first is_line_feed input else drop (maximum_settings_length + 1) input

-- no line feed stands in the bytes
abbrev pub IsUnbroken : List ℕ → Type 0
IsUnbroken bytes = position_or_len is_line_feed bytes ≡ length bytes

-- none but at their end
abbrev pub IsOneLine : List ℕ → Type 0
IsOneLine bytes = length bytes ≤ position_or_len is_line_feed bytes + 1

-- Nothing past the first line feed was taken, and no more bytes than the longest line has with its own.
pub record TakesOfLine (old new : Option (List ℕ)) : Type 0 where
  pub taken : List ℕ
  pub one_line : IsOneLine taken
  pub short : length taken ≤ maximum_settings_length + 1
  pub consumed : Consumes old new taken

-- Reading stopped before the line's end: no line feed was taken either.
pub record TakesNoLineFeed (old new : Option (List ℕ)) : Type 0 where
  pub taken : List ℕ
  pub unended : IsUnbroken taken
  pub short : length taken ≤ maximum_settings_length + 1
  pub consumed : Consumes old new taken

-- ---- what was counted

-- the end was met, once, just where there was no byte
abbrev pub MeetsEndUnless : Option ℕ → State → State → Type 0
MeetsEndUnless (Some byte) old new = NoReadEnded old new
MeetsEndUnless None old new = Rose old.ends new.ends

-- The end of this input was met, once, just where it ended the line: where no line feed stands in it and it isn't cut.
pub record MeetsEndOfLine (input : List ℕ) (old new : State) : Type 0 where
  pub ended : IsUnbroken input → length input ≤ maximum_settings_length → Rose old.ends new.ends
  pub fed : position_or_len is_line_feed input < length input → NoReadEnded old new
  pub cut : maximum_settings_length < length input → NoReadEnded old new

-- A line was read: the first, where the bytes are told. No read failed.
pub record LineRead (line : List ℕ) (old new : State) : Type 0 where
  pub on : ReadsOn old new
  pub unfailed : NoReadFailed old new
  pub ended : EndsAtMostOnce old new
  pub met : GaveInput old (λ input. MeetsEndOfLine input old new)
  pub line_is : GaveInput old (λ input. line ≡ line_of input)
  pub left : GaveInput old (λ input. new.left ≡ Some (after_line input))
