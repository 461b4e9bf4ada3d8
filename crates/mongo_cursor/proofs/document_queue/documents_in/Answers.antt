use Rattle.mongo_bson.specs.Framed.{element_bytes}
use Rattle.mongo_command.specs.Field.{ReadsDocument}
use Rattle.mongo_command.proofs.Elements.{taken, iteration_stopped}
use Rattle.mongo_command.proofs.Tables.{more_each}
use Rattle.mongo_cursor.proofs.Documents.{documents_broken_off, no_document}
use Rattle.mongo_cursor.proofs.document_queue.documents_in.Goals as goal

pub returns-in_default : goal.returns-in_default
returns-in_default c =
    documents_broken_off c.args.array.bytes.now c.loop-item.item-iterator.rest.now c.loop-item.documents c.loop-item.invariant (iteration_stopped c.loop-item.item-iterator c.next.new.self c.in-Some.item c.in_default.field-0 c.in-Some.ensures.steps c.in_default.is)

pub returns-in_err-document : goal.returns-in_err-document
returns-in_err-document c =
    let takes = taken c.loop-item.item-iterator c.next.new.self c.in-Some.item c.in-Ok._index c.in-Ok.value c.in-Some.ensures.steps c.in-Ok.is in
    no_document c.args.array.bytes.now c.loop-item.item-iterator.rest.now c.next.new.self.rest.now c.in-Ok._index.now c.in-Ok.value c.loop-item.documents c.in_err-document.field-0.0 c.from_residual.result c.from_residual.ensures.1 c.loop-item.invariant takes c.in_err-document.ensures.read

pub loop-item-preserved : goal.loop-item-preserved
loop-item-preserved c =
    let takes = taken c.loop-item.item-iterator c.next.new.self c.in-Some.item c.in-Ok._index c.in-Ok.value c.in-Some.ensures.steps c.in-Ok.is in
    let reads = c.in_ok-document.ensures.read takes.element takes.value_is in
    rw c.in_ok-push.ensures.added (more_each ReadsDocument (element_bytes c.args.array.bytes.now) c.loop-item.item-iterator.rest.now c.next.new.self.rest.now c.in-Ok._index.now c.in-Ok.value c.loop-item.documents c.in_ok-document.document c.loop-item.invariant takes reads)
