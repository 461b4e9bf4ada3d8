use Rattle.mongo_session.proofs.RequestFields.{carried}
use Rattle.mongo_session.proofs.request.carried_start.Goals as goal

pub returns-in-Some : goal.returns-in-Some
returns-in-Some c = carried c.args.document.bytes.now c.in-Some.inner.bytes.now c.in-Some.ensures c.speculation_of.result c.speculation_of.ensures

pub returns-in-None : goal.returns-in-None
returns-in-None c = λ inner inside named. c.in-None.ensures inner inside
