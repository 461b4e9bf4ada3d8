-- What the small reads of a source answer.
use Rattle.std.specs.Prelude.{◌≡◌, ℕ, ℤ, pos, ◌<◌, ◌≤◌, ◌<ℤ◌, ◌≤ℤ◌, ◌⊎◌, Option, None, Some, List, length, ⊤}
use Rattle.std.specs.Io.KnownBytes.{Consumes}
use Rattle.mongo_wire.specs.Outside.{State, Unstopped, FailsToRead, MeetsEnd, ReadStops}
use Rattle.mongo_wire.specs.Header.{header_length, number_at, signed_at, op_code_of, header_with}
use Rattle.mongo_wire.specs.Rows.{IsEmptied}
use Rattle.mongo_wire.specs.declared.header.Header.{Header}
use Rattle.mongo_wire.specs.declared.error.ErrorKind.{ErrorKind}
use Rattle.mongo_wire.specs.declared.error.ErrorKind.TheVariants.{ReadFault, EndOfInput, OutOfMemory, InvalidArgument, InvalidResponse}
use Rattle.mongo_wire.specs.declared.fault.ArgumentFault.TheVariants.{CheckedFailure}
use Rattle.mongo_wire.specs.declared.fault.ResponseFault.TheVariants.{OpCode as OpCodeFault}

-- the source failed or ended
abbrev pub IsOfSource : ErrorKind → Type 0
IsOfSource ReadFault = ⊤
IsOfSource EndOfInput = ⊤
IsOfSource kind = ⊥

-- Why filling so many bytes was refused, and what it has consumed. It takes no memory.
abbrev pub FillStops : ErrorKind → State → State → ℕ → Type 0
FillStops kind old new wanted = IsOfSource kind × ReadStops kind old new wanted

-- ---- headers

-- the next bytes are the header's
pub record TakesHeader (old new : State) (header : Header) : Type 0 where
  pub bytes : List ℕ
  pub taken : Consumes old.left new.left bytes
  pub unstopped : Unstopped old new
  pub whole : length bytes ≡ header_length
  pub known : op_code_of (signed_at 12 bytes) ≡ Some header.op_code
  pub header_is : header ≡ header_with bytes header.op_code

-- a header's bytes were taken, whose op code is this number and unknown
pub record TakesUnknown (number : ℤ) (old new : State) : Type 0 where
  pub bytes : List ℕ
  pub taken : Consumes old.left new.left bytes
  pub unstopped : Unstopped old new
  pub whole : length bytes ≡ header_length
  pub number_is : number ≡ signed_at 12 bytes
  pub unknown : op_code_of number ≡ None

abbrev pub HeaderRefused : ErrorKind → State → State → Type 0
HeaderRefused (InvalidResponse (OpCodeFault number)) old new = TakesUnknown number old new
HeaderRefused kind old new = FillStops kind old new header_length

-- ---- numbers

-- the next four bytes are the number, low byte first
abbrev pub TakesUnsigned : State → State → ℕ → Type 0
TakesUnsigned old new number = Unstopped old new × (bytes : List ℕ) × Consumes old.left new.left bytes × (length bytes ≡ 4) × (number ≡ number_at 0 bytes)

abbrev pub TakesSigned : State → State → ℤ → Type 0
TakesSigned old new number = Unstopped old new × (bytes : List ℕ) × Consumes old.left new.left bytes × (length bytes ≡ 4) × (number ≡ signed_at 0 bytes)

-- ---- documents

-- the next bytes, as many as the first four of them say
pub record TakesDocument (old new : State) (document : List ℕ) : Type 0 where
  pub taken : Consumes old.left new.left document
  pub unstopped : Unstopped old new
  pub least : 4 ≤ length document
  pub counted : signed_at 0 document ≡ pos (length document)

-- a front of the length, or a length that isn't below 4 and a front of what it counts
abbrev pub IsStartedDocument : List ℕ → Type 0
IsStartedDocument taken = (length taken ≤ 4) ⊎ ((4 ≤ length taken) × (pos 4 ≤ℤ signed_at 0 taken) × (pos (length taken) ≤ℤ signed_at 0 taken))

-- the bytes ended within the length, or within what it counts
abbrev pub IsShortDocument : List ℕ → Type 0
IsShortDocument taken = (length taken < 4) ⊎ ((4 ≤ length taken) × (pos 4 ≤ℤ signed_at 0 taken) × (pos (length taken) <ℤ signed_at 0 taken))

-- a length below 4
abbrev pub HasLowLength : List ℕ → Type 0
HasLowLength taken = (length taken ≡ 4) × (signed_at 0 taken <ℤ pos 4)

abbrev pub TakesSuch : (List ℕ → Type 0) → Option (List ℕ) → Option (List ℕ) → Type 0
TakesSuch P old new = (taken : List ℕ) × Consumes old new taken × P taken

abbrev pub DocumentUnread : ErrorKind → State → State → Type 0
DocumentUnread ReadFault old new = FailsToRead old new × TakesSuch IsShortDocument old.left new.left
DocumentUnread OutOfMemory old new = Unstopped old new × TakesSuch IsStartedDocument old.left new.left
DocumentUnread EndOfInput old new = MeetsEnd old new × TakesSuch IsShortDocument old.left new.left × IsEmptied new.left
DocumentUnread (InvalidArgument CheckedFailure) old new = Unstopped old new × TakesSuch HasLowLength old.left new.left
DocumentUnread kind old new = ⊥
