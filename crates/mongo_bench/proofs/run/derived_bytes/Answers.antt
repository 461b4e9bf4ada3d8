use Rattle.std.proofs.Common.{rules}
use Rattle.mongo_bench.proofs.run.derived_bytes.Goals as goal

pub returns-in-Sha1-clause-value : goal.returns-in-Sha1-clause-value
returns-in-Sha1-clause-value g c = search rules
