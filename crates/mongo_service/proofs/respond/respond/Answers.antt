use Rattle.std.proofs.Common.{rules, FitsSigned, OnOk, OnErr, subst, sym, arith}
use Rattle.std.specs.Int.{w32}
use Rattle.std.proofs.lemmas.Int.{ints, to_z-of_z}
use Rattle.mongo_wire.specs.Outside.{AppendsFront}
use Rattle.mongo_service.specs.Sent.{IsLongMessage, message_reply, outbox, SendsReply, WriteCause}
use Rattle.mongo_session.specs.Replies.{document_of_served}
use Rattle.mongo_service.proofs.Causes.{document_cause, is_of_building}
use Rattle.mongo_service.proofs.Responses.{reply_cut, reply_sent}
use Rattle.mongo_service.proofs.respond.respond.Goals as goal

pub returns-in-Ok-clause-sent : goal.returns-in-Ok-clause-sent
returns-in-Ok-clause-sent g c =
    let to = c.args.request_id in
    let fits : FitsSigned w32 to = search rules in
    let old = outbox (g.K.Outside.state c.args.sink.now) c.args.ids.now in
    let new = outbox (g.K.Outside.state c.send_document.new.sink) c.send_document.new.ids in
    reply_sent old new to c.args.flags.0 c.args.reply.now c.in-Ok.document c.send_document.result c.in-Ok.ensures.document (search rules)
    (subst (λ t. OnOk c.send_document.result (SendsReply old new t c.in-Ok.document)) (to_z-of_z w32 to fits) c.send_document.ensures.sent)

pub returns-in-Ok-clause-cut : goal.returns-in-Ok-clause-cut
returns-in-Ok-clause-cut g c =
    let to = c.args.request_id in
    let fits : FitsSigned w32 to = search rules in
    let old = outbox (g.K.Outside.state c.args.sink.now) c.args.ids.now in
    let new = outbox (g.K.Outside.state c.send_document.new.sink) c.send_document.new.ids in
    reply_cut old new to c.args.flags.0 c.args.reply.now c.in-Ok.document c.send_document.result c.in-Ok.ensures.document (search rules)
    (subst (λ t. OnErr c.send_document.result (AppendsFront old.state.written new.state.written (message_reply old.id t c.in-Ok.document))) (to_z-of_z w32 to fits) c.send_document.ensures.front)

pub fault_of_document-requires : goal.fault_of_document-requires
fault_of_document-requires g c = is_of_building (document_of_served c.args.reply.now) c.in-Err.fault c.in-Err.ensures.refused

pub returns-in-Err-clause-refused : goal.returns-in-Err-clause-refused
returns-in-Err-clause-refused g c =
    let old = g.K.Outside.state c.args.sink.now in
    let document = document_of_served c.args.reply.now in
    subst (λ f. WriteCause (IsLongMessage document) f old old) (sym c.fault_of_document.ensures) (document_cause (IsLongMessage document) document c.in-Err.fault old (λ long. omega (arith, ints, long)) c.in-Err.ensures.refused)
