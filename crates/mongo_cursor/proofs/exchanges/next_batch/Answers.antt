use Rattle.std.proofs.Common.{◌∙◌, ap}
use Rattle.std.specs.Int.{w64}
use Rattle.std.proofs.lemmas.Int.{to_z-of_z}
use Rattle.mongo_command.specs.EndsExchange.{footing}
use Rattle.mongo_cursor.specs.Batch.{next_batch, IsBatch, BatchRefused}
use Rattle.mongo_cursor.specs.Commands.{get_more_command}
use Rattle.mongo_cursor.proofs.Calls.{call_of}
use Rattle.mongo_cursor.proofs.exchanges.next_batch.Goals as goal

pub returns : goal.returns
returns g c = record {
  ends = call_of g.L.Outside.state (get_more_command c.args.namespace.now c.args.id) (IsBatch next_batch) (BatchRefused next_batch)
      (footing c.args.connection.now c.args.link.now c.args.ids.now) (footing c.batch_of.new.connection c.batch_of.new.link c.batch_of.new.ids)
      c.in_ok-command.command c.batch_of.result (c.in_ok-command.ensures.command ∙ ap (get_more_command c.args.namespace.now) (to_z-of_z w64 c.args.id c.ranges.id)) c.batch_of.ensures.ends;
}
