use Rattle.mongo_command.specs.WriteReply.{IsWriteErrorTable}
use Rattle.mongo_command.proofs.FieldAnswers.{refused, required_refused, or_empty_refused}
use Rattle.mongo_command.proofs.write_errors.IndexedWriteErrorTable.of_fields.Goals as goal

pub returns-in_err-index : goal.returns-in_err-index
returns-in_err-index c = λ es are. required_refused IsWriteErrorTable es _ _ _ _ c.from_residual.ensures.1 (λ t is. (t.index, is.index)) (c.in_err-index.ensures es are)

pub returns-in_err-code : goal.returns-in_err-code
returns-in_err-code c = λ es are. required_refused IsWriteErrorTable es _ _ _ _ c.from_residual-in_err-code.ensures.1 (λ t is. (t.error.code, is.code)) (c.in_err-code.ensures es are)

pub returns-in_err-code_name : goal.returns-in_err-code_name
returns-in_err-code_name c = λ es are. refused IsWriteErrorTable es _ _ _ _ c.from_residual-in_err-code_name.ensures.1 (λ t is. (t.error.code_name, is.code_name)) (c.in_err-code_name.ensures es are)

pub returns-in_err-message : goal.returns-in_err-message
returns-in_err-message c = λ es are. or_empty_refused IsWriteErrorTable es _ _ _ _ c.from_residual-in_err-message.ensures.1 (λ t is. (t.error.message, is.message)) (c.in_err-message.ensures es are)

pub returns-in_err-details : goal.returns-in_err-details
returns-in_err-details c = λ es are. refused IsWriteErrorTable es _ _ _ _ c.from_residual-in_err-details.ensures.1 (λ t is. (t.error.details, is.details)) (c.in_err-details.ensures es are)
