use Rattle.std.proofs.Common.{◌≡◌, ◌≤◌, ◌-◌}
use Rattle.mongo_bench.specs.Work.{only_iterated}
use Rattle.mongo_bench.proofs.work.iterate.Given as goal

abbrev pub invariant-passes : goal.invariant-passes
invariant-passes l = (l.work ≡ only_iterated l.work.iterated) × (l.work.iterated ≤ l.count)

abbrev pub decreases-passes : goal.decreases-passes
decreases-passes l = l.count - l.work.iterated
