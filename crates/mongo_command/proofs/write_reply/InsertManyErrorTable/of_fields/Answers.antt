use Rattle.mongo_command.specs.WriteReply.{IsWriteReplyTable}
use Rattle.mongo_command.proofs.FieldAnswers.{refused, optional_or_empty_refused}
use Rattle.mongo_command.proofs.write_reply.InsertManyErrorTable.of_fields.Goals as goal

pub returns-in_err-write_errors : goal.returns-in_err-write_errors
returns-in_err-write_errors c = λ es are. refused IsWriteReplyTable es _ _ _ _ c.from_residual.ensures.1 (λ t is. (t.write_errors, is.write_errors)) (c.in_err-write_errors.ensures es are)

pub returns-in_err-write_concern_error : goal.returns-in_err-write_concern_error
returns-in_err-write_concern_error c = λ es are. refused IsWriteReplyTable es _ _ _ _ c.from_residual-in_err-write_concern_error.ensures.1 (λ t is. (t.write_concern_error, is.write_concern_error)) (c.in_err-write_concern_error.ensures es are)

pub returns-in_err-labels : goal.returns-in_err-labels
returns-in_err-labels c = λ es are. optional_or_empty_refused IsWriteReplyTable es _ _ _ _ c.from_residual-in_err-labels.ensures.1 (λ t is. (t.labels, is.labels)) (c.in_err-labels.ensures es are)
