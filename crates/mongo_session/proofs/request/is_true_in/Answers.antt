use Rattle.std.proofs.lemmas.Bool.{false≢true}
use Rattle.mongo_session.proofs.RequestFields.{boolean_held}
use Rattle.mongo_session.proofs.request.is_true_in.Goals as goal

pub returns-in-Some : goal.returns-in-Some
returns-in-Some c =
    let held = boolean_held c.args.document.bytes.now c.args.key.now c.in-Some.value c.in-Some.ensures in
    (λ set. held.0 (c.is_true_boolean.ensures.0 set), λ has. c.is_true_boolean.ensures.1 (held.1 has))

pub returns-in-None : goal.returns-in-None
returns-in-None c = (λ never. absurd (false≢true never), λ has. absurd (c.in-None.ensures has.element has.first))
