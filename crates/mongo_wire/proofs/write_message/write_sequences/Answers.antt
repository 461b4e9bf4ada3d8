use Rattle.std.proofs.Common.{rules}
use Rattle.mongo_wire.specs.Measure.{HasCountedSize, sequence_section}
use Rattle.mongo_wire.proofs.Passed.{one_of_all}
use Rattle.mongo_wire.proofs.Written.{cut_among, written_more, error_passed_on}
use Rattle.mongo_wire.proofs.write_message.write_sequences.Goals as goal

pub write_sequence-requires : goal.write_sequence-requires
write_sequence-requires g c = one_of_all HasCountedSize c.args.sequences.now c.sending.sequence-index c.sequence-item.result c.sending-test.true c.sequence-item.is c.requires

pub returns-in_err-write_sequence-clause-refused : goal.returns-in_err-write_sequence-clause-refused
returns-in_err-write_sequence-clause-refused g c =
    let error = c.in_err-write_sequence.field-0.0 in
    rw (error_passed_on c.from_residual.result error c.from_residual.ensures.1)
    (cut_among sequence_section c.args.sequences.now c.sending.sequence-index c.sequence-item.result c.sending-test.true c.sequence-item.is error.kind _ _ _ c.sending.invariant.front c.sending.invariant.still c.in_err-write_sequence.ensures.refused)

pub sending-preserved : goal.sending-preserved
sending-preserved g c = record {
  front = written_more sequence_section c.args.sequences.now c.sending.sequence-index c.sequence-item.result c.sending-test.true c.sequence-item.is _ _ _ c.sending.invariant.front c.in_ok-write_sequence.ensures.written;
  still = search rules;
  on = search rules;
}
