use Rattle.std.proofs.Common.{rules, ◌≡◌, Some, List, ℕ, pos, ◌<ℤ◌, ◌⊎◌, ◌+◌, ◌++◌, length, FitsSigned, ap, inr, refl, sym, subst, ◌∙◌, arith, length-append}
use Rattle.std.specs.Int.{w32}
use Rattle.std.proofs.KnownBytes.{Consumes-trans}
use Rattle.std.proofs.lemmas.Int.{to_z-of_z}
use Rattle.mongo_wire.specs.Header.{header_bytes, signed_at}
use Rattle.mongo_wire.specs.declared.op_code.OpCode.TheVariants.{Query}
use Rattle.mongo_wire.proofs.HeaderBack.{header_back, length_back}
use Rattle.mongo_service.specs.Cut.{IsCut}
use Rattle.mongo_service.specs.Juncture.{basis, basis_of, juncture}
use Rattle.mongo_service.specs.Taken.{IsQueryBody}
use Rattle.mongo_service.specs.declared.fault.ServeFault.TheVariants.{NoFrame}
use Rattle.mongo_server.specs.Announced.{maximum_message_length}
use Rattle.mongo_service.proofs.NoRequest.{bad_length, code_spelled, request_cut, no_query_body}
use Rattle.mongo_service.proofs.Causes.{header_part, query_front_taken, some_before, cause_of_stop, unasked, unasked_counted}
use Rattle.mongo_wire.proofs.ReadStopped.{unstopped_on}
use Rattle.mongo_service.proofs.Lasts.{flushed_after, flushed_read, lasts_after, lasts_read, lasts_unstopped}
use Rattle.mongo_service.proofs.Spent.{none_spent, unasked_spent}
use Rattle.mongo_service.proofs.ServedRequests.{none_taken}
use Rattle.mongo_service.proofs.Parts.{query_part, query_of, none_after}
use Rattle.mongo_service.proofs.serve.take_query.Goals as goal

pub returns-in_default : goal.returns-in_default
returns-in_default g c = record {
  request = λ requests before h f.
      let head = header_bytes c.args.header in
      let old = juncture before c.args.steps.now (basis_of c.args.serving.now) in
      let new = juncture (g.L.Outside.state c.args.link.now) c.args.steps.now (basis_of c.args.serving.now) in
      let sixteen : length head ≡ 16 = refl in
      let length_fits : FitsSigned w32 c.args.header.length = search rules in
      let code = code_spelled c.args.header Query length_fits (search rules) (search rules) c.requires in
      let length_is : c.args.header.length ≡ signed_at 0 head = sym (length_back c.args.header length_fits) in
      none_taken c.args.settings.now requests old new NoFrame head refl (header_part head (omega (arith, sixteen))) f.taken f.on.unwritten.written h.user
      (f.unstopped, f.on.unwritten.writes) (refl, omega (arith, sixteen), bad_length head sixteen code (subst (λ z. (z <ℤ pos 16) ⊎ (maximum_message_length <ℤ z)) (to_z-of_z w32 c.args.header.length length_fits ∙ length_is) (c.in_default.ensures.outside refl))) (flushed_read before _ f.on) (none_spent c.args.settings.now (Some NoFrame) head c.args.steps.now);
}

pub returns-in-Err : goal.returns-in-Err
returns-in-Err g c = record {
  request = λ requests before h f.
      let s = g.L.Outside.state c.args.link.now in
      let t = g.L.Outside.state c.take_bytes.new.source in
      let old = juncture before c.args.steps.now (basis_of c.args.serving.now) in
      let new = juncture t c.args.steps.now (basis_of c.args.serving.now) in
      let head = header_bytes c.args.header in
      let on = c.in-Err.ensures.on in
      let sixteen : length head ≡ 16 = refl in
      let length_fits : FitsSigned w32 c.args.header.length = search rules in
      let code = code_spelled c.args.header Query length_fits (search rules) (search rules) c.requires in
      let counted : pos (16 + c.in-Some.rest) ≡ signed_at 0 head = c.in-Some.ensures.counted ∙ to_z-of_z w32 c.args.header.length length_fits ∙ sym (length_back c.args.header length_fits) in
      let some = cause_of_stop c.in-Err.fault before s t head c.in-Some.rest (lasts_read before s f.unstopped f.on) f.taken (λ _. some_before s.left head (omega (arith, sixteen))) (λ taken few. request_cut head taken c.in-Some.rest sixteen counted few) on c.in-Err.ensures.refused in
      subst (IsCut c.args.settings.now requests old new) (sym c.into.ensures)
      (none_after c.args.settings.now requests old new s _ head some.taken refl (query_front_taken head some.taken c.in-Some.rest sixteen code counted c.in-Some.ensures.within some.within) f some.consumed
      on.unwritten.written h.user some.counted some.cause (flushed_after before s t f.on on) (none_spent c.args.settings.now (Some _) (head ++ some.taken) c.args.steps.now));
}

pub returns-in_default-command_of_query : goal.returns-in_default-command_of_query
returns-in_default-command_of_query g c = record {
  request = λ requests before h f.
      let s = g.L.Outside.state c.args.link.now in
      let t = g.L.Outside.state c.take_bytes.new.source in
      let old = juncture before c.args.steps.now (basis_of c.args.serving.now) in
      let new = juncture t c.args.steps.now (basis_of c.args.serving.now) in
      let head = header_bytes c.args.header in
      let body = c.in-Ok.body.items in
      let on = c.in-Ok.ensures.on in
      let sixteen : length head ≡ 16 = refl in
      let length_fits : FitsSigned w32 c.args.header.length = search rules in
      let code = code_spelled c.args.header Query length_fits (search rules) (search rules) c.requires in
      let counted : pos (16 + c.in-Some.rest) ≡ signed_at 0 head = c.in-Some.ensures.counted ∙ to_z-of_z w32 c.args.header.length length_fits ∙ sym (length_back c.args.header length_fits) in
      let none = subst (λ b. (command : List ℕ) → IsQueryBody b command → ⊥) c.as_slice.ensures.value c.in_default-command_of_query.ensures in
      let lasts = lasts_after before s t (unstopped_on before s t f.unstopped c.in-Ok.ensures.unstopped) f.on on in
      none_after c.args.settings.now requests old new s NoFrame head body refl (query_front_taken head body c.in-Some.rest sixteen code counted c.in-Some.ensures.within (omega (arith, c.in-Ok.ensures.whole))) f
      c.in-Ok.ensures.taken on.unwritten.written h.user (lasts_unstopped before t lasts, lasts.writes) (refl, omega (arith, sixteen, length-append head body), no_query_body head body c.in-Some.rest sixteen code counted c.in-Ok.ensures.whole none) (flushed_after before s t f.on on) (none_spent c.args.settings.now (Some NoFrame) (head ++ body) c.args.steps.now);
}

pub returns-in-Ok-answer_query : goal.returns-in-Ok-answer_query
returns-in-Ok-answer_query g c = record {
  request = λ requests before h f.
      let s = g.L.Outside.state c.args.link.now in
      let t = g.L.Outside.state c.take_bytes.new.source in
      let old = juncture before c.args.steps.now (basis_of c.args.serving.now) in
      let new = juncture (g.L.Outside.state c.respond_to_query.new.sink) c.answer_query.new.steps (basis c.answer_query.new.session c.respond_to_query.new.ids) in
      let head = header_bytes c.args.header in
      let body = c.in-Ok.body.items in
      let command = c.in-Some-command_of_query.command.bytes.now in
      let on = c.in-Ok.ensures.on in
      let sixteen : length head ≡ 16 = refl in
      let length_fits : FitsSigned w32 c.args.header.length = search rules in
      let code = code_spelled c.args.header Query length_fits (search rules) (search rules) c.requires in
      let id_fits : FitsSigned w32 c.args.header.request_id = search rules in
      let counted : pos (16 + c.in-Some.rest) ≡ signed_at 0 head = c.in-Some.ensures.counted ∙ to_z-of_z w32 c.args.header.length length_fits ∙ sym (length_back c.args.header length_fits) in
      let is_body : IsQueryBody body command = subst (λ b. IsQueryBody b command) c.as_slice.ensures.value c.in-Some-command_of_query.ensures in
      query_part c.args.settings.now requests old new t head body command
      (query_of head body command c.in-Some.rest sixteen code counted c.in-Ok.ensures.whole is_body) sixteen
      (Consumes-trans before.left s.left t.left head body f.taken c.in-Ok.ensures.taken) (on.unwritten.written ∙ f.on.unwritten.written) (lasts_after before s t (unstopped_on before s t f.unstopped c.in-Ok.ensures.unstopped) f.on on) c.respond_to_query.ensures.on c.in-Ok-answer_query.reply
      c.in-Ok-answer_query.ensures.answered c.in-Ok-answer_query.ensures.cost c.in-Ok-answer_query.ensures.is_hello (c.in-Ok-answer_query.ensures.remembers requests h) _ (to_z-of_z w32 c.args.header.request_id id_fits ∙ sym (ap (λ x. x.request_id) (header_back c.args.header length_fits id_fits (search rules)).1))
      c.respond_to_query.result c.respond_to_query.ensures.writes c.respond_to_query.ensures.sent c.respond_to_query.ensures.front c.respond_to_query.ensures.refused;
}

pub returns : goal.returns
returns g c = record {
  request = λ requests before h f.
      let s = g.L.Outside.state c.args.link.now in
      let t = g.L.Outside.state c.take_bytes.new.source in
      let old = juncture before c.args.steps.now (basis_of c.args.serving.now) in
      let new = juncture t c.answer_query.new.steps (basis c.answer_query.new.session c.args.serving.now.ids) in
      let head = header_bytes c.args.header in
      let body = c.in-Ok.body.items in
      let command = c.in-Some-command_of_query.command.bytes.now in
      let on = c.in-Ok.ensures.on in
      let sixteen : length head ≡ 16 = refl in
      let length_fits : FitsSigned w32 c.args.header.length = search rules in
      let code = code_spelled c.args.header Query length_fits (search rules) (search rules) c.requires in
      let counted : pos (16 + c.in-Some.rest) ≡ signed_at 0 head = c.in-Some.ensures.counted ∙ to_z-of_z w32 c.args.header.length length_fits ∙ sym (length_back c.args.header length_fits) in
      let is_body : IsQueryBody body command = subst (λ b. IsQueryBody b command) c.as_slice.ensures.value c.in-Some-command_of_query.ensures in
      let is_query = query_of head body command c.in-Some.rest sixteen code counted c.in-Ok.ensures.whole is_body in
      let lasts = lasts_after before s t (unstopped_on before s t f.unstopped c.in-Ok.ensures.unstopped) f.on on in
      none_after c.args.settings.now requests old new s c.in-Err-answer_query.fault head body c.in-Err-answer_query.ensures.kept (inr (inr (command, inr is_query))) f
      c.in-Ok.ensures.taken on.unwritten.written h.user (unasked_counted c.in-Err-answer_query.fault before t command c.in-Err-answer_query.ensures.refused lasts) (unasked c.in-Err-answer_query.fault before t (head ++ body) command is_query c.in-Err-answer_query.ensures.refused) (flushed_after before s t f.on on)
      (unasked_spent c.args.settings.now c.in-Err-answer_query.fault (head ++ body) command c.args.steps.now c.answer_query.new.steps is_query c.in-Err-answer_query.ensures.refused c.in-Err-answer_query.ensures.no_cost c.in-Err-answer_query.ensures.at_most);
}
