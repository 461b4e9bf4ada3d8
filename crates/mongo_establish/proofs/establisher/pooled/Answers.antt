use Rattle.std.proofs.Common.{rules}
use Rattle.mongo_establish.proofs.establisher.pooled.Goals as goal

pub returns-clause-pooled : goal.returns-clause-pooled
returns-clause-pooled c = search rules
