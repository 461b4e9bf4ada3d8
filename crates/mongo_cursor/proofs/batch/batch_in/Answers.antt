use Rattle.mongo_cursor.proofs.Batches.{batch_answer}
use Rattle.mongo_cursor.proofs.batch.batch_in.Goals as goal

pub returns : goal.returns
returns c =
    let holds = c.in_ok-fields.ensures.found in
    batch_answer c.args.key.now c.args.document.bytes.now holds.elements c.cursor_of.result holds.filled (c.cursor_of.ensures _ (c.value.ensures holds.elements holds.are))
