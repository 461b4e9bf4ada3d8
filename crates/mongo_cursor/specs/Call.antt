-- How a call ends that sends a command and reads what its reply says.
use Rattle.std.specs.Prelude.{◌≡◌, ◌⊎◌, ℕ, ℤ, None, Some, Option, Result, List, IfOk, IfErr, OnOk}
use Rattle.mongo_wire.specs.declared.error.Error.{Error}
use Rattle.mongo_wire.specs.declared.error.ErrorKind.{ErrorKind}
use Rattle.mongo_wire.specs.declared.error.ErrorKind.TheVariants.{OutOfMemory}
use Rattle.mongo_wire.specs.Outside.{State}
use Rattle.mongo_command.specs.Connection.{kept_fault, KeepsRest}
use Rattle.mongo_command.specs.Exchange.{Point, Exchanges, ExchangeRefused, CountsStay, command_message, frame_maximum}
use Rattle.mongo_command.specs.EndsExchange.{Footing}
use Rattle.mongo_command.specs.declared.command.Command.{Command}
use Rattle.mongo_exec.specs.InsertMany.{at}

-- the greatest frame of a place's connection
abbrev pub maximum_at : {L : Type 0} → Footing L → ℤ
maximum_at place = frame_maximum place.connection.stream_description

-- nothing was done
pub record Untouched {L : Type 0} (old new : Footing L) : Type 0 where
  pub link : new.link ≡ old.link
  pub ids : new.id ≡ old.id
  pub kept : kept_fault new.connection ≡ kept_fault old.connection

-- the command was sent and its reply isn't read; the connection keeps no fault
pub record Misread (maximum : ℤ) (command : Command) (Refused : ErrorKind → List ℕ → Type 0) (kind : ErrorKind) (old new : Point) (kept : Option ErrorKind) : Type 0 where
  pub reply : List ℕ
  pub exchanged : Exchanges maximum (command_message command) old new reply
  pub refused : Refused kind reply
  pub kept_is : kept ≡ None

-- the fault that the connection keeps was answered again, or memory ran out
abbrev pub IsUnbegun : {L : Type 0} → ErrorKind → Footing L → Footing L → Type 0
IsUnbegun kind old new = ((kept_fault old.connection ≡ Some kind) ⊎ (kind ≡ OutOfMemory)) × Untouched old new

-- Why such a call was refused: nothing was begun; or else the exchange was refused, or its reply isn't read.
abbrev pub CallRefused : {L : Type 0} → (L → State) → Command → (ErrorKind → List ℕ → Type 0) → ErrorKind → Footing L → Footing L → Type 0
CallRefused state command Refused kind old new =
    IsUnbegun kind old new
    ⊎ ((kept_fault old.connection ≡ None)
    × (ExchangeRefused kind (maximum_at old) (command_message command) (at state old) (at state new) (kept_fault new.connection)
    ⊎ Misread (maximum_at old) command Refused kind (at state old) (at state new) (kept_fault new.connection)))

pub record EndsCall {L T : Type 0} (state : L → State) (command : Command) (Reads : List ℕ → T → Type 0) (Refused : ErrorKind → List ℕ → Type 0) (result : Result T Error) (old new : Footing L) : Type 0 where
  -- one frame was sent and one was taken, whose document says this
  pub read : IfOk result (λ value. (reply : List ℕ) × Exchanges (maximum_at old) (command_message command) (at state old) (at state new) reply × Reads reply value)
  -- each refusal has its cause, and says what it left
  pub refused : IfErr result (λ e. CallRefused state command Refused e.kind old new)
  -- a fault that the connection keeps is answered again, and after an answer none is kept
  pub faultless : OnOk result ((kept_fault old.connection ≡ None) × (kept_fault new.connection ≡ None))
  -- nothing else of the connection changes, what the link tells stays told, and no count falls
  pub rest : KeepsRest old.connection new.connection
  pub counts : CountsStay (state old.link) (state new.link)
