use Rattle.std.proofs.Common.{rules}
use Rattle.mongo_command.proofs.command.Command.clear_concerns.Goals as goal

pub returns : goal.returns
returns c = search rules
