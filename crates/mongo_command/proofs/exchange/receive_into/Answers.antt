use Rattle.std.proofs.Common.{rules}
use Rattle.mongo_command.proofs.Phases.{received_into, fault_refused}
use Rattle.mongo_command.proofs.exchange.receive_into.Goals as goal

pub returns-in-Ok-clause-received : goal.returns-in-Ok-clause-received
returns-in-Ok-clause-received g c =
    received_into _ _ _ _ (record { written = search rules; flushed = search rules; writes = search rules }) c.in-Ok.ensures.taken

pub returns-in-Ok-clause-holds : goal.returns-in-Ok-clause-holds
returns-in-Ok-clause-holds g c = let taken = c.in-Ok.ensures.taken in (taken.frame, taken.parts, taken.holds)

pub returns-in-Err-clause-refused : goal.returns-in-Err-clause-refused
returns-in-Err-clause-refused g c =
    fault_refused c.in-Err.fault _ _ _ _ (record { written = search rules; flushed = search rules; writes = search rules }) c.from.ensures c.in-Err.ensures.refused

pub returns-in-Ok-clause-taken : goal.returns-in-Ok-clause-taken
returns-in-Ok-clause-taken g c = c.in-Ok.ensures.taken

pub returns-in-Ok-clause-memory : goal.returns-in-Ok-clause-memory
returns-in-Ok-clause-memory g c = c.in-Ok.ensures.memory

pub returns-in-Err-clause-memory : goal.returns-in-Err-clause-memory
returns-in-Err-clause-memory g c = c.in-Err.ensures.memory
