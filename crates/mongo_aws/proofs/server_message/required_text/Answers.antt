use Rattle.mongo_command.proofs.FieldAnswers.{required_field}
use Rattle.mongo_command.specs.Field.{ReadsText}
use Rattle.mongo_sasl.specs.View.{read_as}
use Rattle.mongo_sasl.proofs.SaslRead.{no_field}
use Rattle.mongo_aws.proofs.server_message.required_text.Goals as goal

pub returns-in-Some : goal.returns-in-Some
returns-in-Some c = λ found is. required_field ReadsText found c.in-Some.value (read_as (λ text. text.now) c.text.result) (rw c.in-Some.is at is) c.text.ensures

pub returns-in-None : goal.returns-in-None
returns-in-None c = λ found is value reads. no_field ReadsText found (rw c.in-None.is at is) value reads
