use Rattle.mongo_bench.proofs.LoggingIn.{both_derived}
use Rattle.mongo_bench.proofs.login.make_logins.Goals as goal

pub returns-clause-cost : goal.returns-clause-cost
returns-clause-cost g c = both_derived c.log_in_repeatedly.result c.args.steps.now c.new.new.steps c.log_in_repeatedly.new.steps c.in_ok-peers.ensures.cost c.log_in_repeatedly.ensures.cost
