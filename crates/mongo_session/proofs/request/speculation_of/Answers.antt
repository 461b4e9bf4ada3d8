use Rattle.mongo_sasl.specs.Keys.{sasl_start_key}
use Rattle.mongo_session.proofs.RequestFields.{named_otherwise}
use Rattle.mongo_session.proofs.request.speculation_of.Goals as goal

pub returns-in_default : goal.returns-in_default
returns-in_default c = named_otherwise c.args.document.bytes.now c.command_name.result.now sasl_start_key c.command_name.ensures c.in_default.not-saslStart
