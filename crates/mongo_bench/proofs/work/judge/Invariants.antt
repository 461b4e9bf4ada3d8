use Rattle.std.proofs.Common.{◌≡◌, ◌≤◌, ◌<◌, ◌-◌, ◌↔◌, IsTrue}
use Rattle.mongo_bson.specs.Document.{IsReadable, maximum_depth}
use Rattle.mongo_bench.specs.Work.{only_judged}
use Rattle.mongo_bench.proofs.work.judge.Given as goal

abbrev pub invariant-passes : goal.invariant-passes
invariant-passes l = (l.work ≡ only_judged l.work.judged) × (l.work.judged ≤ l.count) ×
    (0 < l.work.judged → (IsTrue l.last ↔ IsReadable maximum_depth l.document.bytes.now))

abbrev pub decreases-passes : goal.decreases-passes
decreases-passes l = l.count - l.work.judged
