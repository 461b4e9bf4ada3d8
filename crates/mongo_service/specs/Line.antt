-- The first line of a stream, whose text is the settings; and why there are none.
use Rattle.std.specs.Prelude.{◌≡◌, ◌≢◌, ℕ, ◌+◌, ◌≤◌, ◌⊎◌, None, Some, List, [], ◌∷◌, ◌++◌, length, All, IfSome, ⊤}
use Rattle.std.specs.Io.KnownBytes.{Consumes}
use Rattle.mongo_wire.specs.Outside.{State, ReadsOn, Unstopped, FailsToRead, MeetsEnd, RanOut}
use Rattle.mongo_wire.specs.declared.error.ErrorKind.{ErrorKind}
use Rattle.mongo_wire.specs.declared.error.ErrorKind.TheVariants as kind
use Rattle.mongo_session.specs.ServeSettings.{settings_meant, settings_values}
use Rattle.mongo_session.specs.declared.serve_settings.ServeSettings.{ServeSettings}
use Rattle.mongo_service.specs.declared.settings_line.LineError.{LineError}
use Rattle.mongo_service.specs.declared.settings_line.LineError.TheVariants as line

-- the greatest length of a line, in bytes, without its line feed
abbrev pub maximum_line_length : ℕ
maximum_line_length = 4194304

-- ---- one line

abbrev pub HasNoLineFeed : List ℕ → Type 0
HasNoLineFeed bytes = All (λ byte. byte ≢ 10) bytes

-- the first line, of at most `maximum_line_length` bytes, and its line feed were taken
pub record TakesLine (old new : State) (line : List ℕ) : Type 0 where
  pub taken : Consumes old.left new.left (line ++ 10 ∷ [])
  pub unstopped : Unstopped old new
  pub first : HasNoLineFeed line
  pub short : length line ≤ maximum_line_length

-- one byte more than `maximum_line_length` was taken, and no line feed
pub record HasLongLine (old new : State) : Type 0 where
  pub front : List ℕ
  pub taken : Consumes old.left new.left front
  pub unstopped : Unstopped old new
  pub unended : HasNoLineFeed front
  pub long : length front ≡ maximum_line_length + 1

-- The stream ended within the line: where its bytes are told, those that were left are no more than `maximum_line_length`, without a
-- line feed, and were all taken.
pub record EndsWithin (old new : State) : Type 0 where
  pub met : MeetsEnd old new
  pub ran_out : RanOut old.left new.left (maximum_line_length + 1)
  pub unended : IfSome old.left HasNoLineFeed

-- why there is no line
abbrev pub HasNoLine : State → State → Type 0
HasNoLine old new = HasLongLine old new ⊎ EndsWithin old new

-- why there is no next byte: the bytes ended, or the link failed
abbrev pub StopsReading : ErrorKind → Type 0
StopsReading kind.EndOfInput = ⊤
StopsReading kind.ReadFault = ⊤
StopsReading other = ⊥

-- what that is to the line
abbrev pub line_error_of : ErrorKind → LineError
line_error_of kind.EndOfInput = line.BadSettings
line_error_of other = line.Fault

-- Reading stopped within the line: no line feed was taken before the last byte, and no more bytes than a line of the greatest length has with its own.
pub record StopsWithin (old new : State) : Type 0 where
  pub front : List ℕ
  pub last : List ℕ
  pub taken : Consumes old.left new.left (front ++ last)
  pub unended : HasNoLineFeed front
  pub short : length front ≤ maximum_line_length
  pub one : length last ≤ 1

-- a read failed within the line
abbrev pub LineFails : State → State → Type 0
LineFails old new = FailsToRead old new × StopsWithin old new

-- memory ran out within the line, or for what it says: no read failed, and no end was met
abbrev pub LineRunsOut : State → State → Type 0
LineRunsOut old new = Unstopped old new × StopsWithin old new

-- ---- what the line says

-- a line and its line feed were taken, nothing was written, and the line says these settings
pub record IsAfterLine (old new : State) (settings : ServeSettings) : Type 0 where
  pub on : ReadsOn old new
  pub line : List ℕ
  pub is_line : TakesLine old new line
  pub says : settings_meant line ≡ Some (settings_values settings)

-- a line was taken that says no settings
pub record SaysNoSettings (old new : State) : Type 0 where
  pub line : List ℕ
  pub is_line : TakesLine old new line
  pub says : settings_meant line ≡ None

-- why there are no settings
abbrev pub HasNoSettings : State → State → Type 0
HasNoSettings old new = SaysNoSettings old new ⊎ HasNoLine old new
