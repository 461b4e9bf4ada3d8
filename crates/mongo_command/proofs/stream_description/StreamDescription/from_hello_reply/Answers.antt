use Rattle.std.proofs.Common.{rules}
use Rattle.mongo_command.proofs.stream_description.StreamDescription.from_hello_reply.Goals as goal

pub returns-clause-description : goal.returns-clause-description
returns-clause-description c = search rules
