use Rattle.std.proofs.Common.{◌≡◌, ◌≤◌, ◌-◌}
use Rattle.mongo_scram.specs.Costs.{ledgers}
use Rattle.mongo_bench.specs.Login.{bench_key, AreReady}
use Rattle.mongo_bench.specs.Work.{only_logged_in}
use Rattle.mongo_bench.proofs.LoggingIn.{Made}
use Rattle.mongo_bench.proofs.work.log_in_repeatedly.Given as goal

abbrev pub invariant-passes : goal.invariant-passes
invariant-passes g l =
    (l.work ≡ only_logged_in l.work.logged_in) × (l.work.logged_in ≤ l.count) × AreReady l.peers × (l.fn.steps ≤ l.steps)
    × Made (bench_key l.peers.hash) l.fn.steps l.work.logged_in (ledgers l.steps l.peers.state.salted)

abbrev pub decreases-passes : goal.decreases-passes
decreases-passes g l = l.count - l.work.logged_in
