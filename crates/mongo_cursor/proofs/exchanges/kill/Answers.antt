use Rattle.std.proofs.Common.{◌∙◌, ap}
use Rattle.std.specs.Int.{w64}
use Rattle.std.proofs.lemmas.Int.{to_z-of_z}
use Rattle.mongo_command.specs.EndsExchange.{footing}
use Rattle.mongo_command.specs.CommandReply.{IsCommandBody, CommandRefused}
use Rattle.mongo_cursor.specs.Commands.{kill_cursors_command}
use Rattle.mongo_cursor.proofs.Calls.{call_of}
use Rattle.mongo_cursor.proofs.exchanges.kill.Goals as goal

pub returns : goal.returns
returns g c = record {
  ends = call_of g.L.Outside.state (kill_cursors_command c.args.namespace.now c.args.id) (λ reply _. IsCommandBody reply) CommandRefused
      (footing c.args.connection.now c.args.link.now c.args.ids.now) (footing c.succeed.new.connection c.succeed.new.link c.succeed.new.ids)
      c.in_ok-command.command c.succeed.result (c.in_ok-command.ensures.command ∙ ap (kill_cursors_command c.args.namespace.now) (to_z-of_z w64 c.args.id c.ranges.id)) c.succeed.ensures.ends;
}
