use Rattle.std.proofs.Common.{rules}
use Rattle.mongo_command.proofs.write_reply.insert_many.Goals as goal

pub returns-else-is_some-2-clause-done : goal.returns-else-is_some-2-clause-done
returns-else-is_some-2-clause-done c = search rules
