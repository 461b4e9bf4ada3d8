use Rattle.std.proofs.Common.{◌≡◌, ◌≤◌, ◌-◌}
use Rattle.mongo_bench.specs.Work.{only_built}
use Rattle.mongo_bench.proofs.work.build.Given as goal

abbrev pub invariant-passes : goal.invariant-passes
invariant-passes l = (l.work ≡ only_built l.work.built) × (l.work.built ≤ l.count)

abbrev pub decreases-passes : goal.decreases-passes
decreases-passes l = l.count - l.work.built
