use Rattle.std.proofs.Common.{◌≡◌, ◌≤◌, ◌-◌}
use Rattle.mongo_bench.specs.Work.{only_written}
use Rattle.mongo_bench.proofs.work.write_frames.Given as goal

abbrev pub invariant-passes : goal.invariant-passes
invariant-passes l = (l.work ≡ only_written l.work.written) × (l.work.written ≤ l.count)

abbrev pub decreases-passes : goal.decreases-passes
decreases-passes l = l.count - l.work.written
