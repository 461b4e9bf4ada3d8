use Rattle.std.proofs.Common.{ap, ◌+◌, rules}
use Rattle.mongo_scram.specs.Costs.{ledgers}
use Rattle.mongo_bench.proofs.LoggingIn.{made_more, made_so}
use Rattle.mongo_bench.proofs.work.log_in_repeatedly.Goals as goal

pub passes-preserved : goal.passes-preserved
passes-preserved g c =
    let start = c.args.steps.now in
    let before = c.passes.work.logged_in in
    let last = ledgers c.log_in.new.steps c.log_in.new.peers.state.salted in
    let made = made_more c.passes.peers.hash start before (ledgers c.passes.steps c.passes.peers.state.salted) last c.passes.invariant.4 c.in_ok-log_in.ensures.takes in
    (search rules, search rules, c.log_in.ensures.ready, search rules, made_so c.passes.peers.hash c.log_in.new.peers.hash start (before + 1) c.log_in.new.self.logged_in last c.log_in.ensures.hash (ap (λ w. w.logged_in) c.in_ok-log_in.ensures.work) made)
