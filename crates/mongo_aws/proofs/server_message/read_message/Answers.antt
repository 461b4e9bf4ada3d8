use Rattle.std.proofs.Common.{subst}
use Rattle.mongo_command.specs.Fields.{Answers}
use Rattle.mongo_command.proofs.Tables.{table_of}
use Rattle.mongo_sasl.specs.View.{read_as}
use Rattle.mongo_aws.specs.ServerMessage.{IsMessageTable, IsServerMessage, said_of}
use Rattle.mongo_aws.proofs.server_message.read_message.Goals as goal

pub returns-in-Ok-of_well_formed : goal.returns-in-Ok-of_well_formed
returns-in-Ok-of_well_formed c =
    let holds = c.in-Ok-of_well_formed.ensures.found in
    subst (λ payload. Answers IsServerMessage payload (read_as said_of c.table_of.result)) c.in-Ok.ensures.bytes
    (table_of IsMessageTable c.in-Ok.document.bytes.now holds.elements (read_as said_of c.table_of.result) holds.well_formed (c.table_of.ensures holds.elements holds.well_formed.document holds.are))
