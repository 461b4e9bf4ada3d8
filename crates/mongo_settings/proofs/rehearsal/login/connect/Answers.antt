use Rattle.mongo_scram.specs.Costs.{ledgers}
use Rattle.mongo_establish.proofs.Counting.{costs_some, some_rise}
use Rattle.mongo_settings.proofs.Connecting.{connect_ended}
use Rattle.mongo_settings.proofs.rehearsal.login.connect.Goals as goal

pub returns-clause-ended : goal.returns-clause-ended
returns-clause-ended g c =
    connect_ended c.args.login _ _ _ _ (ledgers c.args.steps.now c.args.state.now.salted) (ledgers c.establish_connection.new.steps c.establish_connection.new.state.salted) c.establish_connection.result c.as_ref.ensures.value
    c.establish_connection.ensures.ended

pub returns-clause-steps : goal.returns-clause-steps
returns-clause-steps g c = some_rise _ _ (costs_some _ c.establish_connection.result _ _ _ _ _ _ c.establish_connection.ensures.ended.established c.establish_connection.ensures.ended.refused)
