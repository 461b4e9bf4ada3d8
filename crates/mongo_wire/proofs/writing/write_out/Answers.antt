use Rattle.mongo_wire.proofs.Written.{write_stopped}
use Rattle.mongo_wire.proofs.writing.write_out.Goals as goal

pub returns-in-Err-clause-refused : goal.returns-in-Err-clause-refused
returns-in-Err-clause-refused g c = rw c.into.ensures (write_stopped c.in-Err.fault _ _ _ c.in-Err.ensures.exact c.in-Err.ensures.front)
