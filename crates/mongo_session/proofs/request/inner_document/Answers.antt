use Rattle.std.proofs.Common.{ℕ, List, MatchOption, sym, subst}
use Rattle.mongo_session.specs.Values.{HasInside}
use Rattle.mongo_session.proofs.RequestFields.{inner_held}
use Rattle.mongo_session.proofs.request.inner_document.Goals as goal

pub returns-in-Some : goal.returns-in-Some
returns-in-Some c =
    let document = c.args.document.bytes.now in
    let key = c.args.key.now in
    subst (λ r. MatchOption r ((inner : List ℕ) → HasInside document key inner → ⊥) (λ inner. HasInside document key inner.bytes.now)) (sym c.inner_of.ensures) (inner_held document key c.in-Some.value c.in-Some.ensures)

pub returns-in-None : goal.returns-in-None
returns-in-None c = λ inner has. c.in-None.ensures has.element has.first
