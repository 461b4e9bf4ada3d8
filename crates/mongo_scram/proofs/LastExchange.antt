-- The last exchange of a login is a step of its plan, and ends it.
use Rattle.std.proofs.Common.{◌≡◌, ◌⊎◌, ℕ, ℤ, refl, sym, subst, inl, inr, arith, Option, None, Result, Ok, Err, List, IfErr, OnOk, flat_map}
use Rattle.mongo_bson.specs.Document.{spell}
use Rattle.mongo_bson.specs.declared.owned_value.OwnedValue.{OwnedValue}
use Rattle.mongo_bson.proofs.Enclosed.{length-enclosed}
use Rattle.mongo_wire.specs.declared.error.Error.{Error}
use Rattle.mongo_wire.specs.declared.error.ErrorKind.{ErrorKind}
use Rattle.mongo_wire.specs.declared.error.ErrorKind.TheVariants.{OutOfMemory}
use Rattle.mongo_wire.specs.Buffer.{held_document, IsFrameTaken}
use Rattle.mongo_wire.specs.Outside.{State}
use Rattle.mongo_command.specs.declared.command.Command.{Command}
use Rattle.mongo_command.specs.Exchange.{command_message, DocumentRefused, CountsStay, Exchanges, ExchangeRefused, point}
use Rattle.mongo_command.specs.Conversation.{Said, plain_message, StoppedKeeping}
use Rattle.mongo_command.proofs.Steps.{stopped_saying}
use Rattle.mongo_sasl.specs.Commands.{continue_elements, continue_body}
use Rattle.mongo_sasl.specs.EndsByScript.{Standing}
use Rattle.mongo_sasl.specs.Login.{EndsByReply}
use Rattle.mongo_sasl.specs.Stops.{RefusedAtOnce}
use Rattle.mongo_sasl.proofs.LastReply.{ends_by_reply}
use Rattle.mongo_scram.specs.declared.messages.ClientFinal.{ClientFinal}
use Rattle.mongo_scram.specs.Client.{final_of, final_conversation, final_source_of, final_api_of}
use Rattle.mongo_scram.specs.Commands.{final_command}
use Rattle.mongo_scram.specs.Plan.{Challenge, last_heard, last_exchange}
use Rattle.mongo_scram.specs.Costs.{CarriesValidFinal}
use Rattle.mongo_scram.specs.Login.{final_said, LastRefusal, EndsLastExchange}
use Rattle.mongo_scram.proofs.OneMessage.{no_final_row}
use Rattle.mongo_sasl.proofs.NotBuilt.{not_built}
use Rattle.mongo_sasl.proofs.AtOnce.{refused_later}

-- ---- the command

pub final_unbuilt : (final : ClientFinal) (maximum : ℤ) (conversation : OwnedValue) (owed : List ℕ) (c : Challenge) (kind : ErrorKind) → DocumentRefused kind (continue_body (final_conversation final) (final_of final)) → RefusedAtOnce (last_exchange (final_said final maximum) conversation owed c) kind
final_unbuilt final maximum conversation owed c kind unbuilt =
    not_built (final_said final maximum) (last_heard conversation owed c) (final_command (final_conversation final) (final_source_of final) (final_of final) (final_api_of final)) kind refl
    (omega (arith, length-enclosed (flat_map spell (continue_elements (final_conversation final) (final_of final))))) unbuilt

pub final_unanswered : (final : ClientFinal) (command : Command) (maximum : ℤ) (conversation : OwnedValue) (owed : List ℕ) (c : Challenge) (kind : ErrorKind) (old new : State) (before after : ℤ) (kept : Option ErrorKind) → command ≡ final_command (final_conversation final) (final_source_of final) (final_of final) (final_api_of final) → CountsStay old new
    → ExchangeRefused kind maximum (command_message command) (point old before) (point new after) kept → StoppedKeeping (last_exchange (final_said final maximum) conversation owed c) kind (point old before) (point new after) kept
final_unanswered final command maximum conversation owed c kind old new before after kept is counts refused =
    stopped_saying (final_said final maximum) (last_heard conversation owed c) kind old new before after kept (subst (λ x. ExchangeRefused kind maximum (command_message x) (point old before) (point new after) kept) is refused) counts

-- the exchange was that of the command
pub final_exchanged : (final : ClientFinal) (command : Command) (maximum : ℤ) (old new : State) (before after : ℤ) (held reply : List ℕ) → command ≡ final_command (final_conversation final) (final_source_of final) (final_of final) (final_api_of final) → reply ≡ held
    → Exchanges maximum (command_message command) (point old before) (point new after) held → Exchanges maximum (plain_message (final_said final maximum).document) (point old before) (point new after) reply
final_exchanged final command maximum old new before after held reply is same e =
    subst (Exchanges maximum (plain_message (final_said final maximum).document) (point old before) (point new after)) (sym same) (subst (λ x. Exchanges maximum (command_message x) (point old before) (point new after) held) is e)

-- ---- the reply

-- the reply is taken, and it is that of the one exchange
taken_ends : {T : Type 0} (r : Result T Error) (said : Said) (conversation : OwnedValue) (owed : List ℕ) (c : Challenge) (reply held : List ℕ) (old new : State) (before after : ℤ) → reply ≡ held → Exchanges said.maximum (plain_message said.document) (point old before) (point new after) reply → CountsStay old new → OnOk r (CarriesValidFinal conversation owed reply)
    → OnOk r (EndsByReply (last_exchange said conversation owed c) c held (point old before) (point new after))
taken_ends (Ok x) said conversation owed c reply held old new before after same e counts is =
    subst (λ document. EndsByReply (last_exchange said conversation owed c) c document (point old before) (point new after)) same
    (ends_by_reply (last_exchange said conversation owed c) c said reply old new before after refl
    (inr (no_final_row reply is.last is.carries, (is.last, is.carries, inr (is.taken, refl)))) e counts)
taken_ends (Err x) said conversation owed c reply held old new before after same e counts is = tt

heard_refused : (conversation : OwnedValue) (owed : List ℕ) (c : Challenge) (reply : List ℕ) (kind : ErrorKind) → LastRefusal conversation owed reply kind ⊎ (kind ≡ OutOfMemory) → RefusedAtOnce (last_heard conversation owed c reply) kind
heard_refused conversation owed c reply kind (inl (inl row)) = inl (inl row)
heard_refused conversation owed c reply kind (inl (inr is)) = inl (inr (no_final_row reply is.0 is.1, (is.0, is.1, inl is.2)))
heard_refused conversation owed c reply kind (inr memory) = inr (inl memory)

pub refused_stopped : {T : Type 0} (r : Result T Error) (said : Said) (conversation : OwnedValue) (owed : List ℕ) (c : Challenge) (reply : List ℕ) (old new : State) (before after : ℤ) → Exchanges said.maximum (plain_message said.document) (point old before) (point new after) reply → CountsStay old new
    → IfErr r (λ e. LastRefusal conversation owed reply e.kind ⊎ (e.kind ≡ OutOfMemory)) → IfErr r (λ e. StoppedKeeping (last_exchange said conversation owed c) e.kind (point old before) (point new after) None)
refused_stopped (Ok x) said conversation owed c reply old new before after e counts h = tt
refused_stopped (Err x) said conversation owed c reply old new before after e counts h =
    refused_later said (last_heard conversation owed c) reply x.kind old new before after e counts (heard_refused conversation owed c reply x.kind h)

-- what the exchange promises where the reply is taken
pub closes_by : {L T : Type 0} (state : L → State) (r : Result T Error) (said : Said) (conversation : OwnedValue) (owed reply : List ℕ) (old new : Standing L) → reply ≡ held_document new.buffer
    → Exchanges said.maximum (plain_message said.document) (point (state old.link) old.id) (point (state new.link) new.id) reply → CountsStay (state old.link) (state new.link) → IsFrameTaken said.maximum (state old.link) (state new.link) new.buffer → OnOk r (CarriesValidFinal conversation owed reply) → OnOk r (EndsLastExchange state said conversation owed old new)
closes_by state (Ok x) said conversation owed reply old new same e counts taken is = record {
  taken = taken;
  ends = λ c. taken_ends (Ok x) said conversation owed c reply (held_document new.buffer) (state old.link) (state new.link) old.id new.id same e counts is;
  message = subst (CarriesValidFinal conversation owed) same is;
}
closes_by state (Err x) said conversation owed reply old new same e counts taken is = tt
