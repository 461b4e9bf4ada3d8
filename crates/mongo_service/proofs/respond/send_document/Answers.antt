use Rattle.std.proofs.Common.{rules, None, FitsSigned, ap, ◌∙◌, sym, subst}
use Rattle.std.specs.Int.{w32}
use Rattle.std.proofs.lemmas.Int.{to_z-of_z}
use mir.Val.{to_z, of_z}
use Rattle.mongo_wire.specs.Message.{written_frame}
use Rattle.mongo_wire.specs.Outside.{AppendsFront}
use Rattle.mongo_wire.specs.declared.message.Message.{Message}
use Rattle.mongo_server.specs.Announced.{maximum_message_length}
use Rattle.mongo_service.specs.Sent.{IsLongMessage, IsReplyFrame, message_reply, WriteCause}
use Rattle.mongo_service.proofs.Responses.{is_of_writing, long_message, message_framed, message_spelled, refused_cause, refused_front}
use Rattle.mongo_service.proofs.respond.send_document.Goals as goal

pub returns-in-Ok-clause-sent : goal.returns-in-Ok-clause-sent
returns-in-Ok-clause-sent g c =
    let id = c.args.ids.now in
    let to = c.args.request_id in
    let fits : FitsSigned w32 to = search rules in
    let m : Message = record { document_payload = c.args.document; document_sequences = c.new.result; response_to = to_z w32 (of_z w32 to); flags = c.empty.result; checksum = None; request_id = None } in
    let sent = written_frame id m in
    let framed =
    message_framed c.args.document c.new.result id (to_z w32 (of_z w32 to)) c.empty.result sent c.new.ensures (c.empty.ensures tt) (c.in-Ok.ensures.frame tt) in
    let spelled = message_spelled c.args.document c.new.result id (to_z w32 (of_z w32 to)) c.empty.result c.new.ensures (c.empty.ensures tt) in
    record {
      sent = sent;
      is_reply = subst (λ t. IsReplyFrame sent id t c.args.document) (to_z-of_z w32 to fits) (record { framed = framed; spelled = spelled });
      appended = c.in-Ok.ensures.written.appended;
      flushed = c.in-Ok.ensures.written.flushed_is;
      drawn = c.in-Ok.ensures.written.drawn;
    }

pub returns-clause-front : goal.returns-clause-front
returns-clause-front g c =
    let id = c.args.ids.now in
    let to = c.args.request_id in
    let fits : FitsSigned w32 to = search rules in
    let m : Message = record { document_payload = c.args.document; document_sequences = c.new.result; response_to = to_z w32 (of_z w32 to); flags = c.empty.result; checksum = None; request_id = None } in
    let old = g.K.Outside.state c.args.sink.now in
    let new = g.K.Outside.state c.write_op_msg_to.new.sink in
    let spelled = message_spelled c.args.document c.new.result id (to_z w32 (of_z w32 to)) c.empty.result c.new.ensures (c.empty.ensures tt) ∙ ap (λ t. message_reply id t c.args.document) (to_z-of_z w32 to fits) in
    subst (AppendsFront old.written new.written) spelled (refused_front c.in-Err.error.kind maximum_message_length m old new id c.write_op_msg_to.new.ids c.in-Err.ensures.refused)

pub returns-clause-refused : goal.returns-clause-refused
returns-clause-refused g c =
    let old = g.K.Outside.state c.args.sink.now in
    let new = g.K.Outside.state c.write_op_msg_to.new.sink in
    subst (λ f. WriteCause (IsLongMessage c.args.document) f old new) (sym c.fault_of_write.ensures) (refused_cause (IsLongMessage c.args.document) c.in-Err.error.kind maximum_message_length _ old new c.args.ids.now c.write_op_msg_to.new.ids (long_message c.args.document c.new.result (to_z w32 (of_z w32 c.args.request_id)) c.empty.result c.new.ensures) c.in-Err.ensures.refused)

pub fault_of_write-requires : goal.fault_of_write-requires
fault_of_write-requires g c =
    is_of_writing c.in-Err.error.kind maximum_message_length _ (g.K.Outside.state c.args.sink.now) (g.K.Outside.state c.write_op_msg_to.new.sink) c.args.ids.now c.write_op_msg_to.new.ids c.in-Err.ensures.refused
