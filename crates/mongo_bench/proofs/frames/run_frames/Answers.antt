use Rattle.std.proofs.Common.{rules}
use Rattle.mongo_bench.proofs.frames.run_frames.Goals as goal

pub returns-in-Ok-clause-work : goal.returns-in-Ok-clause-work
returns-in-Ok-clause-work g c = search rules
