use Rattle.mongo_command.specs.EndsExchange.{footing}
use Rattle.mongo_cursor.specs.Batch.{IsBatch, BatchRefused}
use Rattle.mongo_cursor.proofs.Calls.{call_answered}
use Rattle.mongo_cursor.proofs.exchanges.batch_of.Goals as goal

pub returns : goal.returns
returns g c = record {
  ends = call_answered g.L.Outside.state c.args.command (IsBatch c.args.key.now) (BatchRefused c.args.key.now)
      (footing c.args.connection.now c.args.link.now c.args.ids.now) (footing c.send_message.new.self c.send_message.new.link c.send_message.new.ids)
      c.read_batch.result c.in_ok-response.response c.in_ok-response.ensures.exchanged c.in_ok-response.ensures.ends c.read_batch.ensures.read c.read_batch.ensures.refused;
}
