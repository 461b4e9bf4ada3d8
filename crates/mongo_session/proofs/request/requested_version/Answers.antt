use Rattle.mongo_session.proofs.RequestFields.{version_said, version_unsaid}
use Rattle.mongo_session.proofs.request.requested_version.Goals as goal

pub returns-in-Some : goal.returns-in-Some
returns-in-Some c = version_said c.args.document.bytes.now c.in-Some.name.now c.in-Some.ensures c.version_named.result c.version_named.ensures

pub returns-in-None : goal.returns-in-None
returns-in-None c = version_unsaid c.args.document.bytes.now c.in-None.ensures
