use Rattle.mongo_command.specs.WriteReply.{IsConcernErrorTable}
use Rattle.mongo_command.proofs.FieldAnswers.{refused, required_refused, or_empty_refused}
use Rattle.mongo_command.proofs.write_errors.WriteConcernErrorTable.of_fields.Goals as goal

pub returns-in_err-code : goal.returns-in_err-code
returns-in_err-code c = λ es are. required_refused IsConcernErrorTable es _ _ _ _ c.from_residual.ensures.1 (λ t is. (t.code, is.code)) (c.in_err-code.ensures es are)

pub returns-in_err-code_name : goal.returns-in_err-code_name
returns-in_err-code_name c = λ es are. or_empty_refused IsConcernErrorTable es _ _ _ _ c.from_residual-in_err-code_name.ensures.1 (λ t is. (t.code_name, is.code_name)) (c.in_err-code_name.ensures es are)

pub returns-in_err-message : goal.returns-in_err-message
returns-in_err-message c = λ es are. or_empty_refused IsConcernErrorTable es _ _ _ _ c.from_residual-in_err-message.ensures.1 (λ t is. (t.message, is.message)) (c.in_err-message.ensures es are)

pub returns-in_err-details : goal.returns-in_err-details
returns-in_err-details c = λ es are. refused IsConcernErrorTable es _ _ _ _ c.from_residual-in_err-details.ensures.1 (λ t is. (t.details, is.details)) (c.in_err-details.ensures es are)

pub returns-in_err-labels : goal.returns-in_err-labels
returns-in_err-labels c = λ es are. or_empty_refused IsConcernErrorTable es _ _ _ _ c.from_residual-in_err-labels.ensures.1 (λ t is. (t.labels, is.labels)) (c.in_err-labels.ensures es are)
