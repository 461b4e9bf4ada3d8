use Rattle.std.proofs.Common.{arith}
use Rattle.std.proofs.lemmas.Grind.{common_steps}
use Rattle.mongo_generate.proofs.logins.tally.Goals as goal

pub returns-clause-digested : goal.returns-clause-digested
returns-clause-digested c = grind (arith, common_steps)
