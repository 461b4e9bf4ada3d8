use Rattle.std.proofs.Common.{rules}
use Rattle.mongo_establish.proofs.establisher.refusal.Goals as goal

pub returns-clause-phase : goal.returns-clause-phase
returns-clause-phase c = search rules
