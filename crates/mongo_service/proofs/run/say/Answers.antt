use Rattle.std.proofs.Common.{refl, inl, inr, subst}
use Rattle.mongo_service.specs.Sent.{WriteCause}
use Rattle.mongo_service.proofs.Ran.{all_reported}
use Rattle.mongo_service.proofs.run.say.Goals as goal

pub returns-in-Ok : goal.returns-in-Ok
returns-in-Ok g c =
    let old = g.K.Outside.state c.args.report.now in
    let new = g.K.Outside.state c.send_bytes.new.sink in
    record { front = all_reported old.written new.written c.args.text.now c.in-Ok.ensures.written; whole = inl (refl, inl (c.in-Ok.ensures.written, c.in-Ok.ensures.flushed, c.in-Ok.ensures.writes)) }

pub returns-in-Err-WriteFault : goal.returns-in-Err-WriteFault
returns-in-Err-WriteFault g c =
    let old = g.K.Outside.state c.args.report.now in
    let new = g.K.Outside.state c.send_bytes.new.sink in
    record { front = c.in-Err-WriteFault.ensures.front; whole = inl (refl, inr (subst (λ fault. WriteCause ⊥ fault old new) c.in-Err-WriteFault.field-0-is c.in-Err-WriteFault.ensures.refused)) }

pub returns-in-Err-OutOfMemory : goal.returns-in-Err-OutOfMemory
returns-in-Err-OutOfMemory g c =
    let old = g.K.Outside.state c.args.report.now in
    let new = g.K.Outside.state c.send_bytes.new.sink in
    record { front = c.in-Err-OutOfMemory.ensures.front; whole = inr (refl, subst (λ fault. WriteCause ⊥ fault old new) c.in-Err-OutOfMemory.field-0-is c.in-Err-OutOfMemory.ensures.refused) }
