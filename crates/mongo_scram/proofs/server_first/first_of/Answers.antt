use Rattle.std.proofs.Common.{◌≡◌, ◌⊎◌, rules, subst}
use Rattle.mongo_wire.specs.declared.auth_fault.AuthFault.TheVariants.{Malformed}
use Rattle.mongo_wire.specs.declared.error.ErrorKind.TheVariants.{Authentication, OutOfMemory}
use Rattle.mongo_sasl.specs.View.{sasl_response_of}
use Rattle.mongo_scram.specs.Parsed.{FirstRefused}
use Rattle.mongo_scram.specs.Replies.{FirstReplyRow}
use Rattle.mongo_scram.proofs.ReplyRead.{row_handed_on, first_reply_refused, first_without_text}
use Rattle.mongo_scram.proofs.server_first.first_of.Goals as goal

pub returns-in_default-clause-refused : goal.returns-in_default-clause-refused
returns-in_default-clause-refused c = λ reply is.
    rw c.refused.ensures (first_reply_refused reply (sasl_response_of c.args.view.now) (Authentication Malformed) is (first_without_text c.args.view.now.payload.now (search rules)))

pub returns-in_err-read-clause-refused : goal.returns-in_err-read-clause-refused
returns-in_err-read-clause-refused c = λ reply is.
    row_handed_on c.from_residual.result c.in_err-read.field-0.0 (λ kind. FirstReplyRow reply kind ⊎ (kind ≡ OutOfMemory)) c.from_residual.ensures.1
    (first_reply_refused reply (sasl_response_of c.args.view.now) c.in_err-read.field-0.0.kind is (subst (λ message. FirstRefused message c.in_err-read.field-0.0.kind) c.in-Ok.ensures.cases.0 c.in_err-read.ensures.refused))
