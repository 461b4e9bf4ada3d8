use Rattle.std.proofs.Common.{arith}
use Rattle.std.proofs.lemmas.Grind.{common_steps}
use Rattle.mongo_settings.specs.Batch.{rounds_line}
use Rattle.mongo_settings.proofs.batch.push_rounds.Goals as goal

pub returns : goal.returns
unfolding rounds_line
returns c = grind (arith, common_steps)
