use Rattle.mongo_establish.proofs.Counting.{costs_some, rounds_rise}
use Rattle.mongo_example.proofs.pool.Pool.establish.Goals as goal

pub returns-clause-ended : goal.returns-clause-ended
returns-clause-ended g c = c.establish_connection.ensures.ended

pub returns-clause-rounds : goal.returns-clause-rounds
returns-clause-rounds g c = rounds_rise _ _ (costs_some _ c.establish_connection.result _ _ _ _ _ _ c.establish_connection.ensures.ended.established c.establish_connection.ensures.ended.refused)
