use Rattle.std.proofs.Common.{rules, Some, [], FitsSigned, ap, inl, inr, refl, sym, subst, ◌∙◌}
use Rattle.std.specs.Int.{w32}
use Rattle.std.specs.Io.KnownBytes.{prepend_known}
use Rattle.std.proofs.lemmas.Bool.{false≢true}
use Rattle.std.proofs.lemmas.Int.{to_z-of_z}
use Rattle.mongo_wire.proofs.ReadStopped.{reads_on}
use Rattle.mongo_wire.specs.Header.{header_bytes}
use Rattle.mongo_wire.specs.declared.op_code.OpCode.TheVariants.{Message}
use Rattle.mongo_service.specs.Cut.{HasCause, CountsFault, IsCut}
use Rattle.mongo_service.specs.Juncture.{basis, basis_of, juncture}
use Rattle.mongo_service.proofs.Causes.{cause_of_refusal}
use Rattle.mongo_service.proofs.Lasts.{flushed_after, lasts_after, lasts_unstopped}
use Rattle.mongo_service.proofs.NoRequest.{code_spelled}
use Rattle.mongo_service.specs.Taken.{CarriesRequest}
use Rattle.mongo_service.specs.Spent.{SpendsRounds}
use Rattle.mongo_service.proofs.Spent.{memory_spent, none_spent}
use Rattle.mongo_service.proofs.ServedRequests.{none_taken}
use Rattle.mongo_service.proofs.Parts.{code_before, front_taken, has_some, message_part}
use Rattle.mongo_service.proofs.serve.take_message.Goals as goal

pub returns-in-Err : goal.returns-in-Err
returns-in-Err g c = record {
  request = λ requests before h f.
      let s = g.L.Outside.state c.args.link.now in
      let t = g.L.Outside.state c.take_after.new.source in
      let head = header_bytes c.args.header in
      let steps = c.args.steps.now in
      let old = juncture before steps (basis_of c.args.serving.now) in
      let new = juncture t steps (basis_of c.args.serving.now) in
      let code = code_spelled c.args.header Message (search rules) (search rules) (search rules) c.requires in
      let on = c.in-Err.ensures.on in
      let some = cause_of_refusal c.in-Err.fault before t (has_some before.left s.left head refl f.taken) (code_before before.left s.left head refl code f.taken) (reads_on before s t f.on on) (c.in-Err.ensures.refused before f.taken f.unstopped f.on) in
      subst (IsCut c.args.settings.now requests old new) (sym c.into.ensures)
      (none_taken c.args.settings.now requests old new _ some.taken refl some.part some.consumed (on.unwritten.written ∙ f.on.unwritten.written) h.user some.counted some.cause (flushed_after before s t f.on on) (none_spent c.args.settings.now (Some _) some.taken steps));
}

-- a frame was taken, whatever was left before its header
pub unreachable-requires : goal.unreachable-requires
unreachable-requires g c =
    let s = g.L.Outside.state c.args.link.now in
    let head = header_bytes c.args.header in
    let taken = c.in-Ok.ensures.taken (record s { left = prepend_known head s.left }) (front_taken head s.left) (record { reads = refl; ends = refl }) in
    false≢true (c.in_default.ensures.some taken.frame taken.parts taken.holds)

pub returns-in-Ok-answer_document : goal.returns-in-Ok-answer_document
returns-in-Ok-answer_document g c = record {
  request = λ requests before h f.
      let s = g.L.Outside.state c.args.link.now in
      let t = g.L.Outside.state c.take_after.new.source in
      let old = juncture before c.args.steps.now (basis_of c.args.serving.now) in
      let new = juncture (g.L.Outside.state c.respond.new.sink) c.answer_document.new.steps (basis c.answer_document.new.session c.respond.new.ids) in
      let taken = c.in-Ok.ensures.taken before f.taken f.unstopped in
      let message = c.in-Some.message in
      let shown = c.in-Some.ensures.shown taken.frame taken.parts taken.holds in
      let id = message.header.request_id in
      let fits : FitsSigned w32 id = search rules in
      let on = c.in-Ok.ensures.on in
      message_part c.args.settings.now requests old new t taken.frame taken.parts message.document_payload.bytes.now shown.is_frame (sym shown.body_is)
      taken.taken (on.unwritten.written ∙ f.on.unwritten.written) (lasts_after before s t taken.unstopped f.on on) c.respond.ensures.on c.in-Ok-answer_document.reply
      c.in-Ok-answer_document.ensures.answered c.in-Ok-answer_document.ensures.cost (c.in-Ok-answer_document.ensures.remembers requests h) _ (to_z-of_z w32 id fits ∙ ap (λ r. r.request_id) shown.header_is) message.flags.0 shown.flags_are c.respond.result
      c.respond.ensures.writes c.respond.ensures.sent c.respond.ensures.cut c.respond.ensures.refused;
}

pub returns-in-Err-answer_document : goal.returns-in-Err-answer_document
returns-in-Err-answer_document g c = record {
  request = λ requests before h f.
      let s = g.L.Outside.state c.args.link.now in
      let t = g.L.Outside.state c.take_after.new.source in
      let taken = c.in-Ok.ensures.taken before f.taken f.unstopped in
      let message = c.in-Some.message in
      let shown = c.in-Some.ensures.shown taken.frame taken.parts taken.holds in
      let on = c.in-Ok.ensures.on in
      let document = message.document_payload.bytes.now in
      let old = juncture before c.args.steps.now (basis_of c.args.serving.now) in
      let new = juncture t c.answer_document.new.steps (basis c.answer_document.new.session c.args.serving.now.ids) in
      let carries : CarriesRequest taken.frame document = inl (taken.parts, shown.is_frame, sym shown.body_is) in
      let lasts = lasts_after before s t taken.unstopped f.on on in
      let fault_is = c.in-Err-answer_document.ensures.refused in
      none_taken c.args.settings.now requests old new c.in-Err-answer_document.fault taken.frame c.in-Err-answer_document.ensures.kept
      (inr (inr (document, carries))) taken.taken (on.unwritten.written ∙ f.on.unwritten.written) h.user
      (subst (λ fault. CountsFault fault before t) (sym fault_is) (lasts_unstopped before t lasts, lasts.writes)) (subst (λ fault. HasCause fault before t [] taken.frame) (sym fault_is) (inl refl)) (flushed_after before s t f.on on)
      (subst (λ fault. SpendsRounds c.args.settings.now [] (Some fault) taken.frame c.args.steps.now c.answer_document.new.steps) (sym fault_is) (memory_spent c.args.settings.now taken.frame document c.args.steps.now c.answer_document.new.steps carries c.in-Err-answer_document.ensures.at_most));
}
