use Rattle.std.proofs.Common.{inl, refl}
use Rattle.mongo_session.proofs.RequestFields.{named_otherwise}
use Rattle.mongo_service.specs.Taken.{query_key}
use Rattle.mongo_service.proofs.Queried.{wrapped_command}
use Rattle.mongo_service.proofs.query.query_command.Goals as goal

pub returns-in_default : goal.returns-in_default
returns-in_default c = inl (named_otherwise c.args.document.bytes.now c.command_name.result.now query_key c.command_name.ensures c.in_default.not-text, refl)

pub returns-in-text : goal.returns-in-text
returns-in-text c = wrapped_command c.args.document.bytes.now c.command_name.result.now c.command_name.ensures c.in-text.is c.inner_document.result c.inner_document.ensures
