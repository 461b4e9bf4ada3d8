use Rattle.mongo_bson.specs.Framed.{element_bytes}
use Rattle.mongo_command.specs.WriteReply.{ReadsWriteError}
use Rattle.mongo_command.proofs.Elements.{taken, iteration_stopped}
use Rattle.mongo_command.proofs.Tables.{errors_broken_off, no_write_error, more_each}
use Rattle.mongo_command.proofs.write_errors.write_errors_in.Goals as goal

pub returns-in_default : goal.returns-in_default
returns-in_default c =
    errors_broken_off c.args.array.bytes.now c.loop-item.item-iterator.rest.now c.loop-item.errors c.loop-item.invariant (iteration_stopped c.loop-item.item-iterator c.next.new.self c.in-Some.item c.in_default.field-0 c.in-Some.ensures.steps c.in_default.is)

pub returns-in_err-error : goal.returns-in_err-error
returns-in_err-error c =
    let takes = taken c.loop-item.item-iterator c.next.new.self c.in-Some.item c.in-Ok._index c.in-Ok.value c.in-Some.ensures.steps c.in-Ok.is in
    no_write_error c.args.array.bytes.now c.loop-item.item-iterator.rest.now c.next.new.self.rest.now c.in-Ok._index.now c.in-Ok.value c.loop-item.errors c.in_err-error.field-0.0 c.from_residual.result c.from_residual.ensures.1 c.loop-item.invariant takes c.in_err-error.ensures.read

pub loop-item-preserved : goal.loop-item-preserved
loop-item-preserved c =
    let takes = taken c.loop-item.item-iterator c.next.new.self c.in-Some.item c.in-Ok._index c.in-Ok.value c.in-Some.ensures.steps c.in-Ok.is in
    let reads = c.in_ok-error.ensures.read takes.element takes.value_is in
    rw c.in_ok-push.ensures.added (more_each ReadsWriteError (element_bytes c.args.array.bytes.now) c.loop-item.item-iterator.rest.now c.next.new.self.rest.now c.in-Ok._index.now c.in-Ok.value c.loop-item.errors c.in_ok-error.error c.loop-item.invariant takes reads)
