use Rattle.std.proofs.Common.{rules}
use Rattle.mongo_command.proofs.connection.Connection.keep.Goals as goal

pub returns-clause-kept : goal.returns-clause-kept
returns-clause-kept c = search rules
