-- A command of a login that is sent, and how its plan goes on.
use Rattle.std.proofs.Common.{◌≡◌, ℕ, ℤ, sym, subst, Option, List}
use Rattle.mongo_wire.specs.declared.error.ErrorKind.{ErrorKind}
use Rattle.mongo_wire.specs.Outside.{State}
use Rattle.mongo_command.specs.declared.command.Command.{Command}
use Rattle.mongo_command.specs.declared.server_api.ServerApi.{ServerApi}
use Rattle.mongo_command.specs.Command.{command_of, command_document}
use Rattle.mongo_command.specs.Exchange.{command_message, CountsStay, Exchanges, ExchangeRefused, point}
use Rattle.mongo_command.specs.Conversation.{Said, Plan, plain_message, saying, StoppedKeeping}
use Rattle.mongo_command.proofs.Steps.{stopped_saying}

-- the command as it is said
abbrev pub said_as : List ℕ → List ℕ → List ℕ → Option ServerApi → ℤ → Said
said_as name db body api maximum = record { maximum = maximum; document = command_document (command_of name db body api) }

pub exchanged_as : (name db body : List ℕ) (api : Option ServerApi) (maximum : ℤ) (command : Command) (old new : State) (before after : ℤ) (held reply : List ℕ) → command ≡ command_of name db body api → reply ≡ held
    → Exchanges maximum (command_message command) (point old before) (point new after) held → Exchanges maximum (plain_message (said_as name db body api maximum).document) (point old before) (point new after) reply
exchanged_as name db body api maximum command old new before after held reply is same e =
    subst (Exchanges maximum (plain_message (said_as name db body api maximum).document) (point old before) (point new after)) (sym same) (subst (λ x. Exchanges maximum (command_message x) (point old before) (point new after) held) is e)

pub unanswered_as : {A : Type 0} (name db body : List ℕ) (api : Option ServerApi) (maximum : ℤ) (command : Command) (plan : List ℕ → Plan A) (kind : ErrorKind) (old new : State) (before after : ℤ) (kept : Option ErrorKind) → command ≡ command_of name db body api → CountsStay old new
    → ExchangeRefused kind maximum (command_message command) (point old before) (point new after) kept → StoppedKeeping (saying (said_as name db body api maximum) plan) kind (point old before) (point new after) kept
unanswered_as name db body api maximum command plan kind old new before after kept is counts refused =
    stopped_saying (said_as name db body api maximum) plan kind old new before after kept (subst (λ x. ExchangeRefused kind maximum (command_message x) (point old before) (point new after) kept) is refused) counts
