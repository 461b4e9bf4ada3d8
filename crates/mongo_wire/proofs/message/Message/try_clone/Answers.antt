use Rattle.std.proofs.Common.{rules}
use Rattle.mongo_wire.proofs.message.Message.try_clone.Goals as goal

pub returns-clause-copied : goal.returns-clause-copied
returns-clause-copied c = search rules
