use Rattle.std.proofs.Common.{Ok, Err}
use Rattle.std.proofs.lemmas.Result.{err_from_is_err_and}
use Rattle.mongo_command.specs.EndsExchange.{footing}
use Rattle.mongo_command.specs.CommandReply.{IsCommandBody, CommandRefused}
use Rattle.mongo_cursor.proofs.Calls.{call_answered}
use Rattle.mongo_cursor.proofs.exchanges.succeed.Goals as goal

pub returns-in_err-command_body : goal.returns-in_err-command_body
returns-in_err-command_body g c = record {
  ends = (let e = err_from_is_err_and c.from_residual-in_err-command_body.result c.from_residual-in_err-command_body.ensures.1 in
      rw (e.1, e.2) (call_answered g.L.Outside.state c.args.command (λ reply _. IsCommandBody reply) CommandRefused
      (footing c.args.connection.now c.args.link.now c.args.ids.now) (footing c.send_message.new.self c.send_message.new.link c.send_message.new.ids)
      (Err c.in_err-command_body.field-0.0) c.in_ok-response.response c.in_ok-response.ensures.exchanged c.in_ok-response.ensures.ends tt c.in_err-command_body.ensures.refused));
}

pub returns : goal.returns
returns g c = record {
  ends = call_answered g.L.Outside.state c.args.command (λ reply _. IsCommandBody reply) CommandRefused
      (footing c.args.connection.now c.args.link.now c.args.ids.now) (footing c.send_message.new.self c.send_message.new.link c.send_message.new.ids)
      (Ok tt) c.in_ok-response.response c.in_ok-response.ensures.exchanged c.in_ok-response.ensures.ends c.in_ok-command_body.ensures.succeeded tt;
}
