use Rattle.std.proofs.Common.{◌∷◌, ◌++◌, [], refl, ap, subst}
use Rattle.std.proofs.lemmas.Result.{IfErr-weaker}
use Rattle.mongo_wire.specs.Measure.{documents_bytes}
use Rattle.mongo_wire.specs.Outside.{WriteStops}
use Rattle.mongo_wire.proofs.Written.{cut_before, cut_after, error_passed_on, section_spelled}
use Rattle.mongo_wire.proofs.write_message.write_sequence.Goals as goal

pub returns-in_err-write_pieces-clause-refused : goal.returns-in_err-write_pieces-clause-refused
returns-in_err-write_pieces-clause-refused g c =
    let error = c.in_err-write_pieces.field-0.0 in
    let s = c.args.sequence.now in
    let front = c.sequence_start-start.result ++ (c.as_bytes.result.now ++ 0 ∷ []) in
    rw (error_passed_on c.from_residual.result error c.from_residual.ensures.1)
    (subst (WriteStops error.kind _ _) (section_spelled s c.sequence_start-start.result c.as_bytes.result.now (documents_bytes s.documents) c.sequence_start-start.ensures c.as_bytes.ensures refl)
    (cut_before error.kind _ _ front (documents_bytes s.documents) c.in_err-write_pieces.ensures.refused))

pub returns-clause-refused : goal.returns-clause-refused
returns-clause-refused g c =
    let s = c.args.sequence.now in
    let front = c.sequence_start-start.result ++ (c.as_bytes.result.now ++ 0 ∷ []) in
    let documents = documents_bytes c.as_slice.result.now in
    let spelled = section_spelled s c.sequence_start-start.result c.as_bytes.result.now documents c.sequence_start-start.ensures c.as_bytes.ensures (ap documents_bytes c.as_slice.ensures) in
    IfErr-weaker c.write_documents.result _ _
    (λ e w. subst (WriteStops e.kind _ _) spelled (cut_after e.kind _ _ _ front documents c.in_ok-write_pieces.ensures.written c.in_ok-write_pieces.ensures.writes w))
    c.write_documents.ensures.refused
