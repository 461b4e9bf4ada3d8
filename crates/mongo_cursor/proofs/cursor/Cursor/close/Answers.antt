use Rattle.std.proofs.Common.{rules, ap, of_z, Ok, Err, subst, FitsSigned}
use Rattle.std.specs.Int.{w64}
use Rattle.std.proofs.lemmas.Int.{to_z-of_z}
use Rattle.std.proofs.lemmas.Result.{err_from_is_err_and}
use Rattle.mongo_command.specs.CommandReply.{IsCommandBody, CommandRefused}
use Rattle.mongo_command.specs.EndsExchange.{footing}
use Rattle.mongo_cursor.specs.Commands.{kill_cursors_command}
use Rattle.mongo_cursor.specs.Call.{EndsCall}
use Rattle.mongo_cursor.proofs.Advancing.{close_done, close_refused}
use Rattle.mongo_cursor.proofs.cursor.Cursor.close.Goals as goal

pub returns-in_err-kill : goal.returns-in_err-kill
returns-in_err-kill g c =
    let fits : FitsSigned w64 c.args.self.id = search rules in
    let old = footing c.args.connection.now c.args.link.now c.args.ids.now in
    let new = footing c.kill.new.connection c.kill.new.link c.kill.new.ids in
    let ends = subst (λ id. EndsCall {T = Unit {0}} g.L.Outside.state (kill_cursors_command c.args.self.namespace id) (λ reply _. IsCommandBody reply) CommandRefused (Err c.in_err-kill.field-0.0) old new) (to_z-of_z w64 c.args.self.id fits) c.in_err-kill.ensures.ends in
    let e = err_from_is_err_and c.from_residual.result c.from_residual.ensures.1 in
    record {
      ends = rw (e.1, e.2) (close_refused g.L.Outside.state c.args.self old new (λ zero. c.if-self-eq0.false (ap (of_z w64) zero)) c.in_err-kill.field-0.0 ends);
    }

pub returns : goal.returns
returns g c =
    let fits : FitsSigned w64 c.args.self.id = search rules in
    let old = footing c.args.connection.now c.args.link.now c.args.ids.now in
    let new = footing c.kill.new.connection c.kill.new.link c.kill.new.ids in
    let ends = subst (λ id. EndsCall {T = Unit {0}} g.L.Outside.state (kill_cursors_command c.args.self.namespace id) (λ reply _. IsCommandBody reply) CommandRefused (Ok tt) old new) (to_z-of_z w64 c.args.self.id fits) c.in_ok-kill.ensures.ends in
    record {
      ends = close_done g.L.Outside.state c.args.self old new (λ zero. c.if-self-eq0.false (ap (of_z w64) zero)) ends;
    }
