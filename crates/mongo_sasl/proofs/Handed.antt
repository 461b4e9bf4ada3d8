-- What a call that hands a refusal on, and one that ends after an exchange or before one, says by its plain clauses.
use Rattle.std.proofs.Common.{◌≡◌, sym, ◌∙◌, subst, Result, Ok, Err, IfOk, IfErr, OnOk, OnErr}
use Rattle.std.specs.Result.{IsErrAnd}
use Rattle.mongo_wire.specs.declared.error.Error.{Error}
use Rattle.mongo_wire.specs.declared.error.ErrorKind.{ErrorKind}
use Rattle.mongo_command.specs.declared.connection.Connection.{Connection}
use Rattle.mongo_command.specs.Connection.{KeepsRest}

-- a refusal that is handed on answers nothing
pub no_answer_on : {T E : Type 0} (r : Result T E) (e : E) (Anything : Type 0) → IsErrAnd r (λ x. x ≡ e) → OnOk r Anything
no_answer_on (Ok x) e Anything handed = absurd handed
no_answer_on (Err x) e Anything handed = tt

pub no_answer_by : {T E : Type 0} (r : Result T E) (e : E) (Anything : T → Type 0) → IsErrAnd r (λ x. x ≡ e) → IfOk r Anything
no_answer_by (Ok x) e Anything handed = absurd handed
no_answer_by (Err x) e Anything handed = tt

-- what holds of the refusal holds of the answer
pub handed_on : {T : Type 0} (Holds : Result T Error → Type 0) (r : Result T Error) (e : Error) → IsErrAnd r (λ x. x ≡ e) → Holds (Err e) → Holds r
handed_on Holds (Ok x) e handed is = absurd handed
handed_on Holds (Err x) e handed is = subst (λ (y : Error). Holds (Err y)) (sym handed) is

-- it comes for the same reason
pub handed_row : {T : Type 0} (r : Result T Error) (e : Error) (Row : ErrorKind → Type 0) → IsErrAnd r (λ x. x ≡ e) → Row e.kind → IfErr r (λ x. Row x.kind)
handed_row (Ok x) e Row handed row = tt
handed_row (Err x) e Row handed row = subst (λ (y : Error). Row y.kind) (sym handed) row

-- what holds, holds of an answer
pub on_answer : {T E : Type 0} (r : Result T E) (Holds : Type 0) → Holds → OnOk r Holds
on_answer (Ok x) Holds is = is
on_answer (Err x) Holds is = tt

-- and of a refusal
pub on_refusal : {T E : Type 0} (r : Result T E) (Holds : Type 0) → Holds → OnErr r Holds
on_refusal (Ok x) Holds is = tt
on_refusal (Err x) Holds is = is

-- one change after the other
pub rest_on : (old middle new : Connection) → KeepsRest old middle → KeepsRest middle new → KeepsRest old new
rest_on old middle new p q = record { address = q.address ∙ p.address; id = q.id ∙ p.id; description = q.description ∙ p.description; server_id = q.server_id ∙ p.server_id; token = q.token ∙ p.token }
