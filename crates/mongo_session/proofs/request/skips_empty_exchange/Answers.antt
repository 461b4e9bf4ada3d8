use Rattle.mongo_session.proofs.RequestFields.{skips_said, skips_unsaid}
use Rattle.mongo_session.proofs.request.skips_empty_exchange.Goals as goal

pub returns-in-Some : goal.returns-in-Some
returns-in-Some c = skips_said c.args.document.bytes.now c.in-Some.options.bytes.now c.is_true_in.result c.in-Some.ensures c.is_true_in.ensures

pub returns-in-None : goal.returns-in-None
returns-in-None c = skips_unsaid c.args.document.bytes.now c.in-None.ensures
