use Rattle.std.proofs.Common.{◌≡◌, ◌≤◌, ◌-◌}
use Rattle.mongo_bench.specs.Work.{only_read}
use Rattle.mongo_bench.proofs.work.read_frames.Given as goal

abbrev pub invariant-passes : goal.invariant-passes
invariant-passes l = (l.work ≡ only_read l.work.read) × (l.work.read ≤ l.count)

abbrev pub decreases-passes : goal.decreases-passes
decreases-passes l = l.count - l.work.read
