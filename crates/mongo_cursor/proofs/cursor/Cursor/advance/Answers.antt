use Rattle.std.proofs.Common.{rules, ap, of_z, Ok, Err, subst, FitsSigned}
use Rattle.std.specs.Int.{w64}
use Rattle.std.proofs.lemmas.Int.{to_z-of_z}
use Rattle.mongo_command.specs.EndsExchange.{footing}
use Rattle.mongo_cursor.specs.Batch.{next_batch, IsBatch, BatchRefused}
use Rattle.mongo_cursor.specs.Commands.{get_more_command}
use Rattle.mongo_cursor.specs.Call.{EndsCall}
use Rattle.mongo_cursor.proofs.Advancing.{nothing_held, advance_taken, advance_refused}
use Rattle.mongo_cursor.proofs.cursor.Cursor.advance.Goals as goal

pub returns-in-Ok : goal.returns-in-Ok
returns-in-Ok g c =
    let fits : FitsSigned w64 c.args.self.now.id = search rules in
    let old = footing c.args.connection.now c.args.link.now c.args.ids.now in
    let new = footing c.next_batch.new.connection c.next_batch.new.link c.next_batch.new.ids in
    let ends = subst (λ id. EndsCall g.L.Outside.state (get_more_command c.args.self.now.namespace id) (IsBatch next_batch) (BatchRefused next_batch) (Ok c.in-Ok.batch) old new) (to_z-of_z w64 c.args.self.now.id fits) c.in-Ok.ensures.ends in
    record {
      ends = advance_taken g.L.Outside.state c.args.self.now c.pop_front.new.self old new c.if-self.false (nothing_held c.args.self.now.held c.in_default.ensures.none.1) (λ zero. c.if-self-eq0.false (ap (of_z w64) zero)) c.in-Ok.batch c.begin.result c.begin.new.self ends c.begin.ensures;
    }

pub returns-in-Err : goal.returns-in-Err
returns-in-Err g c =
    let fits : FitsSigned w64 c.args.self.now.id = search rules in
    let old = footing c.args.connection.now c.args.link.now c.args.ids.now in
    let new = footing c.next_batch.new.connection c.next_batch.new.link c.next_batch.new.ids in
    let ends = subst (λ id. EndsCall g.L.Outside.state (get_more_command c.args.self.now.namespace id) (IsBatch next_batch) (BatchRefused next_batch) (Err c.in-Err.error) old new) (to_z-of_z w64 c.args.self.now.id fits) c.in-Err.ensures.ends in
    record {
      ends = advance_refused g.L.Outside.state c.args.self.now c.pop_front.new.self old new c.if-self.false (nothing_held c.args.self.now.held c.in_default.ensures.none.1) (λ zero. c.if-self-eq0.false (ap (of_z w64) zero)) c.in-Err.error c.in_default.ensures.taken ends;
    }
