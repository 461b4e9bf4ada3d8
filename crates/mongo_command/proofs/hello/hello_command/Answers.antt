use Rattle.std.proofs.Common.{rules}
use Rattle.mongo_command.proofs.hello.hello_command.Goals as goal

pub returns-clause-command : goal.returns-clause-command
returns-clause-command c = search rules
