use Rattle.std.proofs.Common.{rules, ◌^◌, ◌<◌, ◌≤◌, FitsSigned, IfSome, ap, ◌∙◌, subst}
use Rattle.std.proofs.lemmas.Int.{to_z-of_z}
use Rattle.std.proofs.lemmas.Result.{IfErr-weaker}
use Rattle.std.proofs.KnownBytes.{Appends-kept}
use Rattle.std.specs.Int.{w32}
use Rattle.std.specs.Io.KnownBytes.{Appends}
use Rattle.mongo_bson.specs.Framed.{maximum_length}
use Rattle.mongo_wire.specs.Header.{maximum_of}
use Rattle.mongo_wire.specs.Message.{id_of, before_checksum, written_frame}
use Rattle.mongo_wire.specs.Outside.{WriteStops}
use Rattle.mongo_wire.proofs.IsFrame.{written_is_frame}
use Rattle.mongo_wire.proofs.Written.{always, both_on_ok, checksum_cut, cut_at_end, frame_cut, frame_written, error_passed_on, write_refused}
use Rattle.mongo_wire.proofs.message.Message.write_op_msg_to.Goals as goal

pub returns-in-Err-clause-refused : goal.returns-in-Err-clause-refused
returns-in-Err-clause-refused g c = search rules

pub returns-in_err-write_before_checksum-clause-refused :
    goal.returns-in_err-write_before_checksum-clause-refused
returns-in_err-write_before_checksum-clause-refused g c =
    let error = c.in_err-write_before_checksum.field-0.0 in
    let m = c.args.self.now in
    let id = c.drawn_id-id.result in
    let fits : FitsSigned w32 id = search rules in
    let same = ap (λ i. before_checksum i m) (to_z-of_z w32 id fits ∙ c.drawn_id-id.ensures.id) in
    rw (error_passed_on c.from_residual.result error c.from_residual.ensures.1)
    (write_refused error.kind (maximum_of c.args.maximum) m _ _ c.args.ids.now _ c.in-Ok.ensures.fits c.drawn_id-id.ensures.drawn
    (frame_cut error.kind (id_of m c.args.ids.now) m _ _ (subst (WriteStops error.kind _ _) same c.in_err-write_before_checksum.ensures.refused)))

pub returns-in_err-write_checksum-clause-refused :
    goal.returns-in_err-write_checksum-clause-refused
returns-in_err-write_checksum-clause-refused g c =
    let error = c.in_err-write_checksum.field-0.0 in
    let m = c.args.self.now in
    let id = c.drawn_id-id.result in
    let fits : FitsSigned w32 id = search rules in
    let same = ap (λ i. before_checksum i m) (to_z-of_z w32 id fits ∙ c.drawn_id-id.ensures.id) in
    let front = c.in_ok-write_before_checksum.ensures in
    rw (error_passed_on c.from_residual-in_err-write_checksum.result error c.from_residual-in_err-write_checksum.ensures.1)
    (write_refused error.kind (maximum_of c.args.maximum) m _ _ c.args.ids.now _ c.in-Ok.ensures.fits c.drawn_id-id.ensures.drawn
    (checksum_cut error.kind (id_of m c.args.ids.now) m _ _ _ _ (subst (Appends _ _) same front.written) front.writes c.in_err-write_checksum.ensures.refused (search rules)))

pub returns-clause-written : goal.returns-clause-written
returns-clause-written g c =
    let m = c.args.self.now in
    let id = c.drawn_id-id.result in
    let fits : FitsSigned w32 id = search rules in
    let same = ap (λ i. before_checksum i m) (to_z-of_z w32 id fits ∙ c.drawn_id-id.ensures.id) in
    let next = id_of m c.args.ids.now in
    let all = frame_written next m _ _ _ _ (subst (Appends _ _) same c.in_ok-write_before_checksum.ensures.written) c.in_ok-write_checksum.ensures.written (search rules) in
    both_on_ok c.flush_out.result _ _ _
    (λ flushed writes. record {
      fits = c.in-Ok.ensures.fits;
      appended = Appends-kept _ _ _ (written_frame next m) all c.flush_out.ensures.kept;
      flushed_is = flushed;
      writes = writes ∙ c.in_ok-write_checksum.ensures.writes ∙ c.in_ok-write_before_checksum.ensures.writes;
      drawn = c.drawn_id-id.ensures.drawn;
    })
    c.flush_out.ensures.flushed c.flush_out.ensures.writes

pub returns-clause-frame : goal.returns-clause-frame
returns-clause-frame g c =
    let m = c.args.self.now in
    let id = c.drawn_id-id.result in
    let fits : FitsSigned w32 id = search rules in
    let to_fits : FitsSigned w32 m.response_to = search rules in
    let sum_fits : IfSome m.checksum (λ sum. sum < 2 ^ 32) = search rules in
    always c.flush_out.result _ (λ tells. written_is_frame (id_of m c.args.ids.now) m (subst (FitsSigned w32) c.drawn_id-id.ensures.id fits) to_fits (subst (λ n. n ≤ maximum_length) c.in-Ok.ensures.counted c.in-Ok.ensures.short) c.in-Ok.ensures.sections sum_fits tells)

pub returns-clause-refused : goal.returns-clause-refused
returns-clause-refused g c =
    let m = c.args.self.now in
    let id = c.drawn_id-id.result in
    let fits : FitsSigned w32 id = search rules in
    let same = ap (λ i. before_checksum i m) (to_z-of_z w32 id fits ∙ c.drawn_id-id.ensures.id) in
    let next = id_of m c.args.ids.now in
    let front = c.in_ok-write_before_checksum.ensures in
    let sum = c.in_ok-write_checksum.ensures in
    IfErr-weaker c.flush_out.result _ _
    (λ e s. write_refused e.kind (maximum_of c.args.maximum) m _ _ c.args.ids.now _ c.in-Ok.ensures.fits c.drawn_id-id.ensures.drawn
    (cut_at_end e.kind _ _ _ (written_frame next m) (frame_written next m _ _ _ _ (subst (Appends _ _) same front.written) sum.written (search rules)) (sum.writes ∙ front.writes) s))
    c.flush_out.ensures.refused
