use Rattle.mongo_service.proofs.Queried.{body_command}
use Rattle.mongo_service.proofs.query.command_of_query.Goals as goal

pub returns-in-Some : goal.returns-in-Some
returns-in-Some c = body_command c.args.body.now c.in-Some.document.bytes.now c.in-Some.document.framed c.in-Some.ensures c.query_command.result c.query_command.ensures
