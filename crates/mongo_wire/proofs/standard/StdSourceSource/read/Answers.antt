use Rattle.std.proofs.Common.{rules}
use Rattle.mongo_wire.proofs.standard.StdSourceSource.read.Goals as goal

pub returns-then-not-is_empty-clause-exact : goal.returns-then-not-is_empty-clause-exact
returns-then-not-is_empty-clause-exact g c = search rules
