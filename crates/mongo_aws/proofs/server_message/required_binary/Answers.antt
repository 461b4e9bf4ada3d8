use Rattle.mongo_command.proofs.FieldAnswers.{required_field}
use Rattle.mongo_aws.specs.ServerMessage.{ReadsBinary}
use Rattle.mongo_sasl.specs.View.{read_as}
use Rattle.mongo_sasl.proofs.SaslRead.{no_field}
use Rattle.mongo_aws.proofs.server_message.required_binary.Goals as goal

pub returns-in-Some : goal.returns-in-Some
returns-in-Some c = λ found is. required_field ReadsBinary found c.in-Some.value (read_as (λ bytes. bytes.now) c.binary.result) (rw c.in-Some.is at is) c.binary.ensures

pub returns-in-None : goal.returns-in-None
returns-in-None c = λ found is value reads. no_field ReadsBinary found (rw c.in-None.is at is) value reads
