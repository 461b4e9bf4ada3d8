use Rattle.mongo_scram.specs.Replies.{FirstPayloadRow}
use Rattle.mongo_scram.proofs.ReplyRead.{reply_refused}
use Rattle.mongo_scram.proofs.server_first.ServerFirst.parse.Goals as goal

pub returns-in-Err-clause-refused : goal.returns-in-Err-clause-refused
returns-in-Err-clause-refused c = reply_refused c.args.response.bytes.now (FirstPayloadRow c.args.response.bytes.now) c.in-Err.error.kind c.in-Err.ensures.refused
