use Rattle.std.proofs.Common.{◌++◌}
use Rattle.std.proofs.lemmas.Result.{IfErr-weaker}
use Rattle.mongo_wire.proofs.Written.{cut_before, cut_after, error_passed_on}
use Rattle.mongo_wire.proofs.writing.write_pieces.Goals as goal

pub returns-in_err-write_out-clause-refused : goal.returns-in_err-write_out-clause-refused
returns-in_err-write_out-clause-refused g c =
    let error = c.in_err-write_out.field-0.0 in
    rw (error_passed_on c.from_residual.result error c.from_residual.ensures.1)
    (cut_before error.kind _ _ c.args.first.now (c.args.second.now ++ c.args.third.now) c.in_err-write_out.ensures.refused)

pub returns-in_err-write_out-2-clause-refused : goal.returns-in_err-write_out-2-clause-refused
returns-in_err-write_out-2-clause-refused g c =
    let error = c.in_err-write_out-2.field-0.0 in
    rw (error_passed_on c.from_residual-in_err-write_out-2.result error c.from_residual-in_err-write_out-2.ensures.1)
    (cut_after error.kind _ _ _ c.args.first.now (c.args.second.now ++ c.args.third.now) c.in_ok-write_out.ensures.written c.in_ok-write_out.ensures.writes
    (cut_before error.kind _ _ c.args.second.now c.args.third.now c.in_err-write_out-2.ensures.refused))

pub returns-clause-refused : goal.returns-clause-refused
returns-clause-refused g c =
    let state = g.K.Outside.state in
    let old = state c.args.sink.now in
    let one = state c.write_out.new.sink in
    let two = state c.write_out-2.new.sink in
    IfErr-weaker c.write_out-3.result _ _
    (λ e s. cut_after e.kind old one _ c.args.first.now (c.args.second.now ++ c.args.third.now) c.in_ok-write_out.ensures.written c.in_ok-write_out.ensures.writes
    (cut_after e.kind one two _ c.args.second.now c.args.third.now c.in_ok-write_out-2.ensures.written c.in_ok-write_out-2.ensures.writes s))
    c.write_out-3.ensures.refused
