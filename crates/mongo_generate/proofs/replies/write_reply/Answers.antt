use Rattle.std.proofs.Common.{pos, None, Some, refl}
use Rattle.mongo_wire.specs.declared.message.Message.{Message}
use Rattle.mongo_generate.proofs.ReplySizes.{frame_fits}
use Rattle.mongo_generate.proofs.replies.write_reply.Goals as goal

pub returns-clause-short : goal.returns-clause-short
returns-clause-short c = λ short.
    let message : Message = record { document_payload = c.args.document_payload; document_sequences = c.new.result; response_to = pos 0; flags = c.empty.result; checksum = None; request_id = Some (pos 1) } in
    frame_fits message _ _ _ _ c.new.ensures refl short c.write_op_msg_to.result c.write_op_msg_to.ensures.refused refl
