use Rattle.std.proofs.Common.{sym, subst}
use Rattle.mongo_session.specs.Requests.{HasPayload}
use Rattle.mongo_session.specs.Values.{HoldsIfAny}
use Rattle.mongo_session.proofs.RequestFields.{binary_held}
use Rattle.mongo_session.proofs.request.payload_of.Goals as goal

pub returns-in-Some : goal.returns-in-Some
returns-in-Some c = subst (HoldsIfAny (HasPayload c.args.document.bytes.now)) (sym c.binary_bytes.ensures) (binary_held c.args.document.bytes.now c.in-Some.value c.in-Some.ensures)

pub returns-in-None : goal.returns-in-None
returns-in-None c = λ payload has. c.in-None.ensures has.element has.first
