-- How a call ends that sends a command and takes its reply, whatever it answers.
use Rattle.std.specs.Prelude.{◌≡◌, ℤ, Option, None, Some, Result, Err, IfErr, OnOk}
use Rattle.mongo_wire.specs.declared.error.Error.{Error}
use Rattle.mongo_wire.specs.declared.error.ErrorKind.{ErrorKind}
use Rattle.mongo_wire.specs.declared.message.Message.{Message}
use Rattle.mongo_wire.specs.Outside.{State}
use Rattle.mongo_command.specs.Connection.{kept_fault, KeepsRest}
use Rattle.mongo_command.specs.Exchange.{command_message, frame_maximum, CountsStay, Point, point}
use Rattle.mongo_command.specs.declared.command.Command.{Command}
use Rattle.mongo_command.specs.declared.connection.Connection.{Connection}

-- what an exchange stands on: its connection, its link and the next id
pub record Footing (L : Type 0) : Type 0 where
  pub connection : Connection
  pub link : L
  pub id : ℤ

abbrev pub footing : {L : Type 0} → Connection → L → ℤ → Footing L
footing connection link id = record { connection = connection; link = link; id = id }

-- a call's refusals: why each comes, and what it leaves in the link, the ids and the connection
abbrev pub Refusals : Type 1
Refusals = ErrorKind → ℤ → Message → Point → Point → Option ErrorKind → Type 0

-- How a call ends that sends a command and takes its reply.
pub record EndsExchange {L T : Type 0} (state : L → State) (Refused : Refusals) (command : Command) (result : Result T Error) (old new : Footing L) : Type 0 where
  -- a fault that the connection keeps is answered again, and nothing is done
  pub kept : (kind : ErrorKind) → kept_fault old.connection ≡ Some kind → (result ≡ Err (record { kind = kind })) × (new.link ≡ old.link) × (new.id ≡ old.id) × (kept_fault new.connection ≡ Some kind)
  -- else each refusal has its cause, and says what it left
  pub refused : kept_fault old.connection ≡ None → IfErr result (λ e. Refused e.kind (frame_maximum old.connection.stream_description) (command_message command) (point (state old.link) old.id) (point (state new.link) new.id) (kept_fault new.connection))
  -- after an answer no fault is kept
  pub faultless : OnOk result (kept_fault new.connection ≡ None)
  -- nothing else of the connection changes
  pub rest : KeepsRest old.connection new.connection
  -- what the link tells stays told, and no count falls
  pub counts : CountsStay (state old.link) (state new.link)
