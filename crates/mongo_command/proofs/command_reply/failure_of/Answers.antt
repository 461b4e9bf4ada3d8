use Rattle.std.proofs.lemmas.Bool.{iff_false}
use Rattle.mongo_command.proofs.HelloRead.{refused_command}
use Rattle.mongo_command.proofs.command_reply.failure_of.Goals as goal

pub returns-else-is_success-clause-refused : goal.returns-else-is_success-clause-refused
returns-else-is_success-clause-refused c = λ document holds.
    refused_command c.refusal_of.result.kind document holds.elements holds.well_formed (iff_false (c.is_success.ensures holds.elements holds.are) c.if-is_success.false) (c.refusal_of.ensures holds.elements holds.are)
