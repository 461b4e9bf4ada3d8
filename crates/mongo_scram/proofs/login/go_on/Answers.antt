use Rattle.std.proofs.Common.{◌≡◌, ◌⊎◌, subst, IfErr}
use Rattle.mongo_wire.specs.declared.error.ErrorKind.TheVariants.{OutOfMemory}
use Rattle.mongo_scram.specs.Replies.{FirstReplyRow}
use Rattle.mongo_scram.proofs.ReplyRead.{row_handed_on}
use Rattle.mongo_scram.proofs.login.go_on.Goals as goal

pub returns-in_err-server_first-clause-refused : goal.returns-in_err-server_first-clause-refused
returns-in_err-server_first-clause-refused c =
    subst (λ reply. IfErr c.from_residual.result (λ e. FirstReplyRow reply e.kind ⊎ (e.kind ≡ OutOfMemory))) c.borrow.ensures
    (row_handed_on c.from_residual.result c.in_err-server_first.field-0.0 (λ kind. FirstReplyRow c.borrow.result.bytes.now kind ⊎ (kind ≡ OutOfMemory)) c.from_residual.ensures.1 c.in_err-server_first.ensures.refused)
