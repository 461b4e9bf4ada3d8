use Rattle.std.proofs.Common.{◌≤◌, OnOk, subst}
use Rattle.std.proofs.lemmas.Result.{IfErr-weaker}
use Rattle.std.specs.Io.KnownBytes.{Appends}
use Rattle.mongo_bson.specs.Framed.{maximum_length}
use Rattle.mongo_wire.specs.Header.{maximum_of}
use Rattle.mongo_wire.specs.Outside.{WriteStops}
use Rattle.mongo_wire.specs.Sending.{sections_frame}
use Rattle.mongo_wire.proofs.SectionsSent.{sections_spelled, sections_unsent, sections_are_frame}
use Rattle.mongo_wire.proofs.Written.{always}
use Rattle.mongo_wire.proofs.raw_sections.write_sections.Goals as goal

pub returns-clause-written : goal.returns-clause-written
returns-clause-written g c =
    let a = c.args in
    let spelled = sections_spelled a.request_id a.response_to a.flags.0 c.in-Ok.length c.message_header-header.result c.unsummed_word.result a.sections.now c.ranges.request_id c.ranges.response_to c.message_header-header.ensures c.unsummed_word.ensures c.in-Ok.ensures.counted.0 in
    let state = g.K.Outside.state in
    subst (λ frame. OnOk c.write_pieces.result (Appends (state c.args.sink.now).written (state c.write_pieces.new.sink).written frame)) spelled c.write_pieces.ensures.written

pub returns-clause-frame : goal.returns-clause-frame
returns-clause-frame g c =
    let a = c.args in
    always c.write_pieces.result _ (sections_are_frame a.request_id a.response_to a.flags.0 a.sections.now c.ranges.request_id c.ranges.response_to (subst (λ n. n ≤ maximum_length) c.in-Ok.ensures.counted.0 c.in-Ok.ensures.counted.1))

pub returns-clause-refused : goal.returns-clause-refused
returns-clause-refused g c =
    let a = c.args in
    let frame = sections_frame a.request_id a.response_to a.flags.0 a.sections.now in
    let spelled = sections_spelled a.request_id a.response_to a.flags.0 c.in-Ok.length c.message_header-header.result c.unsummed_word.result a.sections.now c.ranges.request_id c.ranges.response_to c.message_header-header.ensures c.unsummed_word.ensures c.in-Ok.ensures.counted.0 in
    IfErr-weaker c.write_pieces.result _ _
    (λ e s. sections_unsent e.kind (maximum_of a.maximum) a.sections.now frame _ _ c.in-Ok.ensures.fits (subst (WriteStops e.kind _ _) spelled s))
    c.write_pieces.ensures.refused
