use Rattle.std.proofs.Common.{◌≡◌, ◌⊎◌, rules, subst}
use Rattle.mongo_wire.specs.declared.auth_fault.AuthFault.TheVariants.{Malformed}
use Rattle.mongo_wire.specs.declared.error.ErrorKind.TheVariants.{Authentication, OutOfMemory}
use Rattle.mongo_sasl.specs.View.{sasl_response_of}
use Rattle.mongo_scram.specs.Parsed.{ServerFinalUnread}
use Rattle.mongo_scram.specs.Replies.{FinalReplyRow}
use Rattle.mongo_scram.proofs.ReplyRead.{row_handed_on, final_refused, final_without_text}
use Rattle.mongo_scram.proofs.server_final.server_final_of.Goals as goal

pub returns-in_default-clause-refused : goal.returns-in_default-clause-refused
returns-in_default-clause-refused c = λ reply is.
    rw c.refused.ensures (final_refused reply (sasl_response_of c.args.view.now) (Authentication Malformed) is (final_without_text c.args.view.now.payload.now (search rules)))

pub returns-in_err-body-clause-refused : goal.returns-in_err-body-clause-refused
returns-in_err-body-clause-refused c = λ reply is.
    row_handed_on c.from_residual.result c.in_err-body.field-0.0 (λ kind. FinalReplyRow reply kind ⊎ (kind ≡ OutOfMemory)) c.from_residual.ensures.1
    (final_refused reply (sasl_response_of c.args.view.now) c.in_err-body.field-0.0.kind is (subst (λ message. ServerFinalUnread message c.in_err-body.field-0.0.kind) c.in-Ok.ensures.cases.0 c.in_err-body.ensures.refused))
