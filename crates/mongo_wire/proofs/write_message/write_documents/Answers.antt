use Rattle.std.proofs.Common.{rules, subst}
use Rattle.std.specs.Io.KnownBytes.{Appends}
use Rattle.mongo_wire.specs.Outside.{WriteStops}
use Rattle.mongo_wire.proofs.Written.{cut_among, written_more, error_passed_on}
use Rattle.mongo_wire.proofs.write_message.write_documents.Goals as goal

pub returns-in_err-write_out-clause-refused : goal.returns-in_err-write_out-clause-refused
returns-in_err-write_out-clause-refused g c =
    let error = c.in_err-write_out.field-0.0 in
    let stops = subst (WriteStops error.kind _ _) c.as_bytes.ensures.bytes c.in_err-write_out.ensures.refused in
    rw (error_passed_on c.from_residual.result error c.from_residual.ensures.1)
    (cut_among (λ d. d) c.args.documents.now c.sending.document-index c.document-item.result c.sending-test.true c.document-item.is error.kind _ _ _ c.sending.invariant.front c.sending.invariant.still stops)

pub sending-preserved : goal.sending-preserved
sending-preserved g c = record {
  front = written_more (λ d. d) c.args.documents.now c.sending.document-index c.document-item.result c.sending-test.true c.document-item.is _ _ _ c.sending.invariant.front (subst (Appends _ _) c.as_bytes.ensures.bytes c.in_ok-write_out.ensures.written);
  still = search rules;
  on = search rules;
}
