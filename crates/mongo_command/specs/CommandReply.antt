-- The reply to a command: whether it succeeded, and why it is refused where it didn't.
use Rattle.std.specs.Prelude.{◌≡◌, ◌⊎◌, ℕ, List}
use Rattle.mongo_bson.specs.Document.{Element, IsWellFormed}
use Rattle.mongo_wire.specs.declared.error.ErrorKind.{ErrorKind}
use Rattle.mongo_wire.specs.declared.error.ErrorKind.TheVariants.{InvalidResponse, OutOfMemory as NoMemoryLeft}
use Rattle.mongo_wire.specs.declared.fault.ResponseFault.{ResponseFault}
use Rattle.mongo_wire.specs.declared.fault.ResponseFault.TheVariants.{Body}
use Rattle.mongo_command.specs.declared.field.FieldFault.{FieldFault}
use Rattle.mongo_command.specs.declared.field.FieldFault.TheVariants.{Unreadable, OutOfMemory}
use Rattle.mongo_command.specs.Field.{field_of}
use Rattle.mongo_command.specs.Hello.{IsSuccess, IsErrorTable, IsCommandError, FailureRow}
use Rattle.mongo_command.specs.Keys.{ok_key}

-- the command succeeded: its reply is well formed, and `ok` reads as 1
pub record IsCommandBody (document : List ℕ) : Type 0 where
  pub elements : List Element
  pub well_formed : IsWellFormed document elements
  pub success : IsSuccess (field_of ok_key elements)

abbrev pub IsNoCommandBody : List ℕ → Type 0
IsNoCommandBody document = IsCommandBody document → ⊥

-- why a reply isn't given: it isn't that of a command that succeeded, or memory ran out
abbrev pub CommandRefused : ErrorKind → List ℕ → Type 0
CommandRefused kind document = (IsNoCommandBody document × FailureRow (IsCommandError document) Body kind) ⊎ (kind ≡ NoMemoryLeft)

-- what fields that can't be read are refused as
abbrev pub refusal_kind : ResponseFault → FieldFault → ErrorKind
refusal_kind unreadable Unreadable = InvalidResponse unreadable
refusal_kind unreadable OutOfMemory = NoMemoryLeft

-- why elements are refused that aren't those of the reply that was owed
abbrev pub FieldsRefused : ResponseFault → ErrorKind → List Element → Type 0
FieldsRefused otherwise kind elements = FailureRow (IsErrorTable elements) otherwise kind ⊎ (kind ≡ NoMemoryLeft)
