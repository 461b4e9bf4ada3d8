use Rattle.std.proofs.Common.{Err, ap, ◌∙◌}
use Rattle.std.proofs.lemmas.Result.{err_from_is_err_and}
use Rattle.mongo_command.specs.Response.{reply_document}
use Rattle.mongo_cursor.proofs.Batches.{command_refused, no_batch}
use Rattle.mongo_cursor.proofs.batch.read_batch.Goals as goal

pub returns-in_err-body-clause-refused : goal.returns-in_err-body-clause-refused
returns-in_err-body-clause-refused c =
    let e = err_from_is_err_and c.from_residual.result c.from_residual.ensures.1 in
    rw (e.1, e.2) (command_refused _ c.in_err-body.field-0.0.kind _ c.in_err-body.ensures.refused)

pub returns-in-Err-Unreadable-clause-refused : goal.returns-in-Err-Unreadable-clause-refused
returns-in-Err-Unreadable-clause-refused c =
    rw (c.into.ensures) (no_batch c.args.key.now (reply_document c.args.response.now) c.in_ok-body.body.bytes.now c.batch_in.result c.in_ok-body.ensures.succeeded c.in_ok-body.ensures.document (c.in-Err-Unreadable.is ∙ ap Err c.in-Err-Unreadable.field-0-is) c.batch_in.ensures)
