use Rattle.mongo_bson.specs.Framed.{element_bytes}
use Rattle.mongo_bson.proofs.OneAnswer.{found_or_broken}
use Rattle.mongo_session.proofs.RequestFields.{stands}
use Rattle.mongo_session.proofs.request.value_at.Goals as goal

pub returns-in-Ok : goal.returns-in-Ok
returns-in-Ok c = stands c.args.document.bytes.now c.args.key.now c.in-Ok.found c.in-Ok.ensures.found

pub returns-in-Err : goal.returns-in-Err
returns-in-Err c = λ element first. found_or_broken (element_bytes c.args.document.bytes.now) c.args.key.now element first c.in-Err.ensures.malformed.1
