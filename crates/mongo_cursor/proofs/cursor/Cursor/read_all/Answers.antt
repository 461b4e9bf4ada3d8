use Rattle.std.proofs.Common.{◌≡◌, ◌∙◌, ◌+◌, refl, sym, ap, subst, append-nil, Ok, Err}
use Rattle.std.proofs.lemmas.Result.{err_from_is_err_and}
use Rattle.mongo_wire.specs.Error.{kind_of_fault}
use Rattle.mongo_wire.specs.declared.error.Error.{Error}
use Rattle.mongo_wire.specs.declared.error.ErrorKind.TheVariants.{OutOfMemory}
use Rattle.mongo_bson.specs.declared.fault.BsonFault.{BsonFault}
use Rattle.mongo_command.specs.EndsExchange.{footing}
use Rattle.mongo_cursor.specs.Cursors.{IsWire, EndsAdvance, EndsReadAll}
use Rattle.mongo_cursor.specs.declared.cursor.Advance.TheVariants.{Document, Empty, End}
use Rattle.mongo_cursor.specs.declared.cursor_error.CursorError.{CursorError}
use Rattle.mongo_cursor.specs.declared.cursor_error.CursorError.TheVariants.{Wire}
use Rattle.mongo_cursor.proofs.Reading.{come_begun, come_more, come_to_end, come_refused, come_lost}
use Rattle.mongo_cursor.proofs.cursor.Cursor.read_all.Goals as goal
use Rattle.mongo_cursor.proofs.cursor.Cursor.read_all.Goals.{in-Document+in_ok-push-in-Document, in-Empty}

pub calls-init : goal.calls-init
calls-init g c = come_begun g.L.Outside.state c.args.self.now c.args.out.now (footing c.args.connection.now c.args.link.now c.args.ids.now)

pub returns-in_err-document : goal.returns-in_err-document
returns-in_err-document g c =
    let old = footing c.args.connection.now c.args.link.now c.args.ids.now in
    let middle = footing c.calls.connection c.calls.link c.calls.ids in
    let new = footing c.advance.new.connection c.advance.new.link c.advance.new.ids in
    let e = err_from_is_err_and c.from_residual.result c.from_residual.ensures.1 in
    record {
      ends = rw (e.1, e.2) (come_refused g.L.Outside.state c.args.self.now c.args.out.now old c.args.most c.calls.call c.calls.self c.advance.new.self c.calls.out middle new c.calls.invariant c.in_err-document.field-0.0 c.calls-test.true c.in_err-document.ensures.ends);
    }

pub returns-in_err-push-in-Document : goal.returns-in_err-push-in-Document
returns-in_err-push-in-Document g c =
    let state = g.L.Outside.state in
    let old = footing c.args.connection.now c.args.link.now c.args.ids.now in
    let middle = footing c.calls.connection c.calls.link c.calls.ids in
    let new = footing c.advance.new.connection c.advance.new.link c.advance.new.ids in
    let e = err_from_is_err_and c.from_residual-in_err-push-in-Document.result c.from_residual-in_err-push-in-Document.ensures.1 in
    let ends = subst (λ a. EndsAdvance state (Ok a) c.calls.self c.advance.new.self middle new) c.in-Document.is c.in_ok-document.ensures.ends in
    let is = e.2 ∙ ap (λ (f : BsonFault). Wire (record { kind = kind_of_fault f })) c.in_err-push-in-Document.ensures.refused in
    let memory = subst (IsWire (λ (x : Error). x.kind ≡ OutOfMemory)) (sym is) refl in
    let lost = come_lost state c.args.self.now c.args.out.now old c.args.most c.calls.call c.calls.self c.advance.new.self c.calls.out middle new c.calls.invariant c.in-Document.document e.0 c.calls-test.true ends memory in
    record {
      ends = rw (e.1) (subst (λ out. EndsReadAll state c.args.most (Err e.0) c.args.self.now c.advance.new.self c.args.out.now out old new) (sym c.in_err-push-in-Document.ensures.unchanged) lost);
    }

pub returns-in-End : goal.returns-in-End
returns-in-End g c =
    let state = g.L.Outside.state in
    let old = footing c.args.connection.now c.args.link.now c.args.ids.now in
    let middle = footing c.calls.connection c.calls.link c.calls.ids in
    let new = footing c.advance.new.connection c.advance.new.link c.advance.new.ids in
    let ends = subst (λ a. EndsAdvance state (Ok a) c.calls.self c.advance.new.self middle new) c.in-End.is c.in_ok-document.ensures.ends in
    record {
      ends = come_to_end state c.args.self.now c.args.out.now old c.args.most c.calls.call c.calls.self c.advance.new.self c.calls.out middle new c.calls.invariant c.calls-test.true ends;
    }

pub calls-preserved : goal.calls-preserved
calls-preserved g c =
    let state = g.L.Outside.state in
    let old = footing c.args.connection.now c.args.link.now c.args.ids.now in
    let middle = footing c.calls.connection c.calls.link c.calls.ids in
    let new = footing c.advance.new.connection c.advance.new.link c.advance.new.ids in
    let next = come_more state c.args.self.now c.args.out.now old c.args.most c.calls.call c.calls.self c.advance.new.self c.calls.out middle new c.calls.invariant in
    elim c.match-branch-2.branch [
      | in-Document+in_ok-push-in-Document w ↦
          next (Document w.in-Document.document) c.match-branch-2.out (c.calls.call + 1) refl
          (subst (λ a. EndsAdvance state (Ok a) c.calls.self c.advance.new.self middle new) w.in-Document.is c.in_ok-document.ensures.ends)
          (w.out-is ∙ w.in_ok-push-in-Document.ensures.added)
      | in-Empty w ↦
          next Empty c.match-branch-2.out (c.calls.call + 1) refl
          (subst (λ a. EndsAdvance state (Ok a) c.calls.self c.advance.new.self middle new) w.in-Empty.is c.in_ok-document.ensures.ends)
          (w.out-is ∙ sym (append-nil c.calls.out))
    ]
