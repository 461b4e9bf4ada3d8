use Rattle.std.proofs.Common.{rules}
use Rattle.mongo_bench.proofs.walking.walk.Goals as goal

pub returns-in-Readable-clause-told : goal.returns-in-Readable-clause-told
returns-in-Readable-clause-told g c = search rules

pub returns-in-Iterate-clause-work : goal.returns-in-Iterate-clause-work
returns-in-Iterate-clause-work g c = search rules
