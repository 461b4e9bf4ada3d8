use Rattle.std.proofs.Common.{rules}
use Rattle.mongo_mac.proofs.Keys.{hi_under-pads_of}
use Rattle.mongo_mac.proofs.key.hi.Goals as goal

pub returns-clause-value : goal.returns-clause-value
returns-clause-value g c = search (rules, hi_under-pads_of)

pub returns-clause-cost : goal.returns-clause-cost
returns-clause-cost g c = search rules
