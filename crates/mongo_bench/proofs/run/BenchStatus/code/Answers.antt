use Rattle.std.proofs.Common.{rules}
use Rattle.mongo_bench.proofs.run.BenchStatus.code.Goals as goal

pub returns-in-Done : goal.returns-in-Done
returns-in-Done c = search rules
