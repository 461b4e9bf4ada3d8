use Rattle.std.proofs.Common.{subst, OnOk}
use Rattle.mongo_scram.specs.Costs.{ledgers}
use Rattle.mongo_establish.specs.KeyCosts.{StoresKey}
use Rattle.mongo_generate.specs.Generated.{authentication_at}
use Rattle.mongo_generate.specs.Login.{key_of}
use Rattle.mongo_generate.proofs.logins.log_in_numbered.Goals as goal

pub returns-clause-accepted : goal.returns-clause-accepted
returns-clause-accepted g c = c.log_in.ensures.accepted (authentication_at c.args.number) c.in_ok-login.ensures.login c.in_ok-server.ensures.serves

pub returns-clause-takes : goal.returns-clause-takes
returns-clause-takes g c =
    subst (λ steps. OnOk c.log_in.result (StoresKey (key_of (authentication_at c.args.number)) (ledgers steps c.args.state.now.salted) (ledgers c.log_in.new.steps c.log_in.new.state.salted))) c.in_ok-server.ensures.cost
    (c.log_in.ensures.takes (authentication_at c.args.number) c.in_ok-login.ensures.login c.in_ok-server.ensures.serves)
