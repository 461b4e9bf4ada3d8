use Rattle.mongo_command.specs.Field.{field_of, ReadsBoolean}
use Rattle.mongo_command.proofs.FieldAnswers.{required_refused}
use Rattle.mongo_sasl.specs.Reply.{ReadsValue, ReadsGeneric, IsSaslTable}
use Rattle.mongo_sasl.specs.View.{read_as, sasl_response_of}
use Rattle.mongo_sasl.specs.Keys.{conversation_id_key, done_key, payload_key}
use Rattle.mongo_sasl.proofs.SaslRead.{as_err}
use Rattle.mongo_sasl.proofs.sasl_view.table_of.Goals as goal

pub returns-in_err-conversation_kind : goal.returns-in_err-conversation_kind
returns-in_err-conversation_kind c = λ es is are.
    required_refused IsSaslTable es ReadsValue (field_of conversation_id_key es) _ (read_as sasl_response_of c.from_residual.result) (as_err sasl_response_of c.from_residual.result _ c.from_residual.ensures.1) (λ t table. (t.conversation_id, table.conversation_id)) (c.in_err-conversation_kind.ensures es is)

pub returns-in_err-done : goal.returns-in_err-done
returns-in_err-done c = λ es is are.
    required_refused IsSaslTable es ReadsBoolean (field_of done_key es) _ (read_as sasl_response_of c.from_residual-in_err-done.result) (as_err sasl_response_of c.from_residual-in_err-done.result _ c.from_residual-in_err-done.ensures.1) (λ t table. (t.done, table.done)) (c.in_err-done.ensures es are)

pub returns-in_err-payload : goal.returns-in_err-payload
returns-in_err-payload c = λ es is are.
    required_refused IsSaslTable es ReadsGeneric (field_of payload_key es) _ (read_as sasl_response_of c.from_residual-in_err-payload.result) (as_err sasl_response_of c.from_residual-in_err-payload.result _ c.from_residual-in_err-payload.ensures.1) (λ t table. (t.payload, table.payload)) (c.in_err-payload.ensures (field_of payload_key es) (c.value.ensures es are))

pub returns : goal.returns
returns c = λ es is are. record {
  conversation_id = c.in_ok-conversation_kind.ensures es is;
  done = c.in_ok-done.ensures es are;
  payload = c.in_ok-payload.ensures (field_of payload_key es) (c.value.ensures es are);
}
