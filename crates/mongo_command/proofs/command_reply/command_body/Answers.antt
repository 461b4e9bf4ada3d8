use Rattle.mongo_command.specs.Response.{reply_document}
use Rattle.mongo_command.proofs.command_reply.command_body.Goals as goal

pub returns-in-Some-clause-succeeded : goal.returns-in-Some-clause-succeeded
returns-in-Some-clause-succeeded c = tt

pub returns-in-Some-clause-refused : goal.returns-in-Some-clause-refused
returns-in-Some-clause-refused c = c.in-Some.ensures.refused (reply_document c.args.response.now) (rw c.raw_body-document.ensures at c.in-Ok.ensures.found)
