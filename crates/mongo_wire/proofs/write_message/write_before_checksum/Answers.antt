use Rattle.std.proofs.Common.{rules, ◌++◌, refl, ap, subst}
use Rattle.std.proofs.lemmas.Result.{IfErr-weaker}
use Rattle.std.proofs.KnownBytes.{Appends-trans}
use Rattle.std.specs.Io.KnownBytes.{Appends}
use Rattle.mongo_wire.specs.Measure.{sequences_bytes}
use Rattle.mongo_wire.specs.Outside.{WriteStops}
use Rattle.mongo_wire.proofs.Written.{both_on_ok, cut_before, cut_after, error_passed_on, frame_spelled}
use Rattle.mongo_wire.proofs.write_message.write_before_checksum.Goals as goal

pub returns-in_err-write_pieces-clause-refused : goal.returns-in_err-write_pieces-clause-refused
returns-in_err-write_pieces-clause-refused g c =
    let error = c.in_err-write_pieces.field-0.0 in
    let m = c.args.message.now in
    let front = c.message_header-header.result ++ (c.section_start-start.result ++ c.as_bytes.result.now) in
    let spelled = frame_spelled c.args.request_id c.args.length m c.message_header-header.result c.section_start-start.result c.as_bytes.result.now (sequences_bytes m.document_sequences) c.ranges.request_id (search rules) c.message_header-header.ensures c.section_start-start.ensures c.as_bytes.ensures.bytes refl c.requires.counted in
    rw (error_passed_on c.from_residual.result error c.from_residual.ensures.1)
    (subst (WriteStops error.kind _ _) spelled (cut_before error.kind _ _ front (sequences_bytes m.document_sequences) c.in_err-write_pieces.ensures.refused))

pub returns-clause-written : goal.returns-clause-written
returns-clause-written g c =
    let front = c.message_header-header.result ++ (c.section_start-start.result ++ c.as_bytes.result.now) in
    let sequences = sequences_bytes c.as_slice.result.now in
    let spelled = frame_spelled c.args.request_id c.args.length c.args.message.now c.message_header-header.result c.section_start-start.result c.as_bytes.result.now sequences c.ranges.request_id (search rules) c.message_header-header.ensures c.section_start-start.ensures c.as_bytes.ensures.bytes (ap sequences_bytes c.as_slice.ensures) c.requires.counted in
    both_on_ok c.write_sequences.result _ _ _
    (λ sent _. subst (Appends _ _) spelled (Appends-trans _ _ _ front sequences c.in_ok-write_pieces.ensures.written sent))
    c.write_sequences.ensures.written c.write_sequences.ensures.written

pub returns-clause-refused : goal.returns-clause-refused
returns-clause-refused g c =
    let front = c.message_header-header.result ++ (c.section_start-start.result ++ c.as_bytes.result.now) in
    let sequences = sequences_bytes c.as_slice.result.now in
    let spelled = frame_spelled c.args.request_id c.args.length c.args.message.now c.message_header-header.result c.section_start-start.result c.as_bytes.result.now sequences c.ranges.request_id (search rules) c.message_header-header.ensures c.section_start-start.ensures c.as_bytes.ensures.bytes (ap sequences_bytes c.as_slice.ensures) c.requires.counted in
    let done = c.in_ok-write_pieces.ensures in
    IfErr-weaker c.write_sequences.result _ _
    (λ e w. subst (WriteStops e.kind _ _) spelled (cut_after e.kind _ _ _ front sequences done.written done.writes w))
    c.write_sequences.ensures.refused
