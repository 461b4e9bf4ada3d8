use Rattle.std.proofs.Common.{rules, arith, take}
use Rattle.std.proofs.lemmas.Grind.{common_steps}
use Rattle.mongo_wire.specs.Error.{kind_of_frame_fault}
use Rattle.mongo_wire.proofs.ReadStopped.{stops_after, reads_on}
use Rattle.mongo_wire.proofs.reading.fill_or_end.Goals as goal

pub returns-in-Err-fill-clause-refused : goal.returns-in-Err-fill-clause-refused
returns-in-Err-fill-clause-refused g c =
    let taken = take c.in-Ok.count c.read.new.buf in
    stops_after (kind_of_frame_fault c.in-Err-fill.fault) _ _ _ taken _ _ c.in-Ok.ensures.bytes.0 (search rules) (grind (arith, common_steps, c.read.auto.buf, c.in-Ok.ensures.most)) c.in-Err-fill.ensures.refused

pub returns-in-Err-fill-clause-on : goal.returns-in-Err-fill-clause-on
returns-in-Err-fill-clause-on g c = reads_on _ _ _ c.in-Ok.ensures.on c.in-Err-fill.ensures.on

pub returns-in-Ok-fill-clause-on : goal.returns-in-Ok-fill-clause-on
returns-in-Ok-fill-clause-on g c = reads_on _ _ _ c.in-Ok.ensures.on c.in-Ok-fill.ensures.on

pub returns-in-Ok-eq0-clause-on : goal.returns-in-Ok-eq0-clause-on
returns-in-Ok-eq0-clause-on g c = c.in-Ok-eq0.ensures.on

pub returns-in-Err-clause-on : goal.returns-in-Err-clause-on
returns-in-Err-clause-on g c = c.in-Err.ensures.on
