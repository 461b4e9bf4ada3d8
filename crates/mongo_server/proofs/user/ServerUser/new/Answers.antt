use Rattle.std.proofs.Common.{◌≡◌, Result, Ok, Err, ap, ◌∙◌}
use Rattle.std.specs.Result.{IsErrAnd}
use Rattle.mongo_wire.specs.declared.error.Error.{Error}
use Rattle.mongo_wire.specs.declared.error.ErrorKind.{ErrorKind}
use Rattle.mongo_scram.proofs.OneRow.{one_password_row}
use Rattle.mongo_server.proofs.user.ServerUser.new.Goals as goal

-- an error that is handed on has its kind
kind_handed_on : {T : Type 0} (r : Result T Error) (e : Error) (kind : ErrorKind) → IsErrAnd r (λ x. x ≡ e) → e.kind ≡ kind → IsErrAnd r (λ x. x.kind ≡ kind)
kind_handed_on (Ok t) e kind is same = is
kind_handed_on (Err x) e kind is same = ap (λ (y : Error). y.kind) is ∙ same

pub returns-in_err-salted-clause-exact : goal.returns-in_err-salted-clause-exact
returns-in_err-salted-clause-exact g c = λ kind row.
    kind_handed_on c.from_residual.result c.in_err-salted.field-0.0 kind c.from_residual.ensures.1 (one_password_row c.args.version c.args.password.now c.in_err-salted.field-0.0.kind kind c.in_err-salted.ensures.refused row)

pub returns-clause-exact : goal.returns-clause-exact
returns-clause-exact g c = λ kind row. absurd (c.in_ok-salted.ensures.usable kind row)
