use Rattle.std.proofs.Common.{sym, subst}
use Rattle.mongo_session.specs.Values.{HasText, HoldsIfAny}
use Rattle.mongo_session.proofs.RequestFields.{string_held}
use Rattle.mongo_session.proofs.request.text_value.Goals as goal

pub returns-in-Some : goal.returns-in-Some
returns-in-Some c = subst (HoldsIfAny (HasText c.args.document.bytes.now c.args.key.now)) (sym c.string_of.ensures) (string_held c.args.document.bytes.now c.args.key.now c.in-Some.value c.in-Some.ensures)

pub returns-in-None : goal.returns-in-None
returns-in-None c = λ text has. c.in-None.ensures has.element has.first
