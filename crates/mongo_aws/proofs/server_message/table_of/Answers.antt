use Rattle.mongo_command.specs.Field.{field_of, ReadsText}
use Rattle.mongo_command.proofs.FieldAnswers.{required_refused}
use Rattle.mongo_sasl.specs.View.{read_as}
use Rattle.mongo_sasl.proofs.SaslRead.{as_err}
use Rattle.mongo_aws.specs.Keys.{server_nonce_key, sts_host_key}
use Rattle.mongo_aws.specs.ServerMessage.{ReadsBinary, IsMessageTable, said_of}
use Rattle.mongo_aws.proofs.server_message.table_of.Goals as goal

pub returns-in_err-server_nonce : goal.returns-in_err-server_nonce
returns-in_err-server_nonce c = λ es is are.
    required_refused IsMessageTable es ReadsBinary (field_of server_nonce_key es) _ (read_as said_of c.from_residual.result) (as_err said_of c.from_residual.result _ c.from_residual.ensures.1) (λ t table. (t.server_nonce, table.server_nonce)) (c.in_err-server_nonce.ensures (field_of server_nonce_key es) (c.value.ensures es are))

pub returns-in_err-sts_host : goal.returns-in_err-sts_host
returns-in_err-sts_host c = λ es is are.
    required_refused IsMessageTable es ReadsText (field_of sts_host_key es) _ (read_as said_of c.from_residual-in_err-sts_host.result) (as_err said_of c.from_residual-in_err-sts_host.result _ c.from_residual-in_err-sts_host.ensures.1) (λ t table. (t.sts_host, table.sts_host)) (c.in_err-sts_host.ensures (field_of sts_host_key es) (c.value-2.ensures es are))
