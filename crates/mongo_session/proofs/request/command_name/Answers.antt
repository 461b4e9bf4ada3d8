use Rattle.std.proofs.Common.{rules}
use Rattle.mongo_session.proofs.request.command_name.Goals as goal

pub returns-in-Ok-Some-text : goal.returns-in-Ok-Some-text
returns-in-Ok-Some-text c = search rules

pub returns-in-Ok-Some : goal.returns-in-Ok-Some
returns-in-Ok-Some c = search rules
