use Rattle.std.proofs.Common.{rules, ◌≡◌, FitsSigned, ◌∙◌, subst, sym, arith}
use Rattle.std.specs.Int.{w32}
use Rattle.std.proofs.lemmas.Int.{ints, to_z-of_z}
use mir.Val.{to_z, of_z}
use Rattle.mongo_service.specs.Sent.{IsLongReply, outbox, query_reply, WriteCause}
use Rattle.mongo_session.specs.Replies.{document_of_served}
use Rattle.mongo_service.proofs.Causes.{document_cause, is_of_building}
use Rattle.mongo_service.proofs.Responses.{query_front, query_numbered, query_sent}
use Rattle.mongo_service.proofs.respond.respond_to_query.Goals as goal

pub returns-clause-sent : goal.returns-clause-sent
returns-clause-sent g c =
    let old = g.K.Outside.state c.args.sink.now in
    let new = g.K.Outside.state c.send_bytes.new.sink in
    let id = c.args.ids.now in
    let drawn = c.draw.result in
    let to = c.args.request_id in
    let document = c.as_bytes-2.result.now in
    let drawn_fits : FitsSigned w32 drawn = search rules in
    let to_fits : FitsSigned w32 to = search rules in
    let frame : c.in-Ok-frame_of_reply.frame.items ≡ query_reply id to document =
    query_numbered c.in-Ok-frame_of_reply.frame.items document (to_z w32 (of_z w32 drawn)) id (to_z w32 (of_z w32 to)) to c.in-Ok-frame_of_reply.ensures.frame (to_z-of_z w32 drawn drawn_fits ∙ c.draw.ensures.drawn) (to_z-of_z w32 to to_fits) in
    query_sent (outbox old id) (outbox new c.draw.new.self) to c.args.reply.now document c.in-Ok-frame_of_reply.frame.items c.as_slice.result.now c.send_bytes.result (c.as_bytes-2.ensures.bytes ∙ c.in-Ok.ensures.document) frame c.as_slice.ensures.value
    c.draw.ensures.next c.send_bytes.ensures.written c.send_bytes.ensures.flushed

pub returns-clause-front : goal.returns-clause-front
returns-clause-front g c =
    let old = g.K.Outside.state c.args.sink.now in
    let new = g.K.Outside.state c.send_bytes.new.sink in
    let id = c.args.ids.now in
    let drawn = c.draw.result in
    let to = c.args.request_id in
    let document = c.as_bytes-2.result.now in
    let drawn_fits : FitsSigned w32 drawn = search rules in
    let to_fits : FitsSigned w32 to = search rules in
    let frame : c.in-Ok-frame_of_reply.frame.items ≡ query_reply id to document =
    query_numbered c.in-Ok-frame_of_reply.frame.items document (to_z w32 (of_z w32 drawn)) id (to_z w32 (of_z w32 to)) to c.in-Ok-frame_of_reply.ensures.frame (to_z-of_z w32 drawn drawn_fits ∙ c.draw.ensures.drawn) (to_z-of_z w32 to to_fits) in
    query_front old new to id c.args.reply.now document c.in-Ok-frame_of_reply.frame.items c.as_slice.result.now c.send_bytes.result (c.as_bytes-2.ensures.bytes ∙ c.in-Ok.ensures.document) frame c.as_slice.ensures.value c.send_bytes.ensures.front

pub fault_of_document-requires : goal.fault_of_document-requires
fault_of_document-requires g c = is_of_building (document_of_served c.args.reply.now) c.in-Err.fault c.in-Err.ensures.refused

pub returns-in-Err-clause-refused : goal.returns-in-Err-clause-refused
returns-in-Err-clause-refused g c =
    let old = g.K.Outside.state c.args.sink.now in
    let document = document_of_served c.args.reply.now in
    subst (λ f. WriteCause (IsLongReply document) f old old) (sym c.fault_of_document.ensures) (document_cause (IsLongReply document) document c.in-Err.fault old (λ long. omega (arith, ints, long)) c.in-Err.ensures.refused)
