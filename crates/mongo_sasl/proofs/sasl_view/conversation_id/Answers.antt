use Rattle.std.proofs.Common.{sym, subst}
use Rattle.mongo_bson.proofs.Found.{broken_no_document}
use Rattle.mongo_command.specs.Field.{field_of, Required}
use Rattle.mongo_command.specs.Fields.{Answers}
use Rattle.mongo_sasl.specs.Reply.{ReadsValue}
use Rattle.mongo_sasl.specs.View.{read_as, owned_value_of}
use Rattle.mongo_sasl.specs.Keys.{conversation_id_key}
use Rattle.mongo_sasl.proofs.SaslRead.{id_answer}
use Rattle.mongo_sasl.proofs.sasl_view.conversation_id.Goals as goal

pub unreachable-requires : goal.unreachable-requires
unreachable-requires c = c.requires (λ elements is. broken_no_document c.args.response.bytes.now conversation_id_key elements is c.in-Err.ensures.malformed.1)

pub returns : goal.returns
returns c = λ elements is.
    subst (λ answer. Answers (Required ReadsValue) (field_of conversation_id_key elements) (read_as owned_value_of answer)) (sym c.ok_or.ensures.value) (id_answer c.args.response.bytes.now conversation_id_key elements c.in-Ok.found is c.in-Ok.ensures.found)
