use Rattle.std.proofs.Common.{rules}
use Rattle.mongo_num.proofs.int.wide.Goals as goal

pub returns-clause-value : goal.returns-clause-value
returns-clause-value g c = search rules

pub returns-clause-within : goal.returns-clause-within
returns-clause-within g c = search rules

pub returns-clause-narrow : goal.returns-clause-narrow
returns-clause-narrow g c = search rules
