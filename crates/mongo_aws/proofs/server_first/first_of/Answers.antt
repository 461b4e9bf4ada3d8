use Rattle.mongo_sasl.specs.View.{sasl_response_of}
use Rattle.mongo_aws.proofs.FirstRows.{first_unread}
use Rattle.mongo_aws.proofs.server_first.first_of.Goals as goal

pub returns-in-Err-clause-refused : goal.returns-in-Err-clause-refused
returns-in-Err-clause-refused c = λ reply is. rw c.unread.ensures (first_unread reply (sasl_response_of c.args.view.now) c.in-Err.fault is (rw c.in-Err.is at c.read_message.ensures))
