use Rattle.std.proofs.Common.{rules}
use Rattle.mongo_num.proofs.checked.arithmetic.CheckedAnySub.sub.Goals as goal

pub returns-in-Some-Some-clause-exact : goal.returns-in-Some-Some-clause-exact
returns-in-Some-Some-clause-exact g c = search rules
