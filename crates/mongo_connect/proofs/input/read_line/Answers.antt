use Rattle.std.proofs.Common.{arith, ap, ◌∙◌}
use Rattle.mongo_connect.proofs.FirstLine.{line_fed, line_ended, line_cut, still_unended, stops_held, stops_kept, takes_stopped, takes_next, one_more, one_pushed}
use Rattle.mongo_wire.specs.Outside.{risen}
use Rattle.mongo_wire.proofs.ReadStopped.{reads_on}
use Rattle.mongo_connect.proofs.input.read_line.Goals as goal

pub returns-in-Ok-Some-eq10-clause-line : goal.returns-in-Ok-Some-eq10-clause-line
returns-in-Ok-Some-eq10-clause-line g c =
    let state = g.S.Outside.state in
    let e = c.in-Ok-Some-eq10 in
    line_fed (state c.args.source.now) (state c.reading.source) (state c.read_byte.new.source) c.reading.held.items c.reading.invariant _ _ e.field-0-is e.field-0-0-test (omega arith) e.ensures.byte e.ensures.unfailed e.ensures.ended e.ensures.on

pub returns-in-Ok-None-clause-line : goal.returns-in-Ok-None-clause-line
returns-in-Ok-None-clause-line g c =
    let state = g.S.Outside.state in
    let e = c.in-Ok-None in
    line_ended (state c.args.source.now) (state c.reading.source) (state c.read_byte.new.source) c.reading.held.items c.reading.invariant _ e.field-0-is (omega arith) e.ensures.byte e.ensures.end e.ensures.unfailed e.ensures.ended e.ensures.on

pub returns-clause-line : goal.returns-clause-line
returns-clause-line g c =
    let state = g.S.Outside.state in
    line_cut (state c.args.source.now) (state c.reading.source) c.reading.held.items c.reading.invariant (omega arith)

-- ---- what was taken

pub returns-in-Ok-Some-eq10-clause-within : goal.returns-in-Ok-Some-eq10-clause-within
returns-in-Ok-Some-eq10-clause-within g c =
    let state = g.S.Outside.state in
    takes_next (state c.args.source.now) (state c.reading.source) (state c.read_byte.new.source) c.reading.held.items c.reading.invariant c.in-Ok-Some-eq10.field-0 (omega (arith, c.reading-test.true, c.len.ensures)) c.in-Ok-Some-eq10.ensures.byte

pub returns-in-Ok-Some-eq10-clause-on : goal.returns-in-Ok-Some-eq10-clause-on
returns-in-Ok-Some-eq10-clause-on g c = reads_on _ _ _ c.reading.invariant.on c.in-Ok-Some-eq10.ensures.on

pub returns-then-is_err-clause-within : goal.returns-then-is_err-clause-within
returns-then-is_err-clause-within g c =
    let state = g.S.Outside.state in
    takes_next (state c.args.source.now) (state c.reading.source) (state c.read_byte.new.source) c.reading.held.items c.reading.invariant c.in-Ok-Some.field-0 (omega (arith, c.reading-test.true, c.len.ensures)) c.in-Ok-Some.ensures.byte

pub returns-then-is_err-clause-stopped : goal.returns-then-is_err-clause-stopped
returns-then-is_err-clause-stopped g c =
    let state = g.S.Outside.state in
    stops_held (state c.args.source.now) (state c.read_byte.new.source) _
    (one_more (state c.args.source.now) (state c.reading.source) (state c.read_byte.new.source) c.reading.held.items c.reading.invariant c.in-Ok-Some.field-0 c.in-Ok-Some.byte c.in-Ok-Some.field-0-is c.in-Ok-Some.byte-test.1 (omega (arith, c.reading-test.true, c.len.ensures)) c.in-Ok-Some.ensures.byte c.in-Ok-Some.ensures.unfailed c.in-Ok-Some.ensures.ended c.in-Ok-Some.ensures.on)

pub returns-then-is_err-clause-on : goal.returns-then-is_err-clause-on
returns-then-is_err-clause-on g c = reads_on _ _ _ c.reading.invariant.on c.in-Ok-Some.ensures.on

pub reading-preserved : goal.reading-preserved
reading-preserved g c =
    let state = g.S.Outside.state in
    one_pushed (state c.args.source.now) (state c.reading.source) (state c.read_byte.new.source) c.reading.held.items c.reading.invariant c.in-Ok-Some.field-0 c.in-Ok-Some.byte _ c.push.new.self.items c.in-Ok-Some.field-0-is c.in-Ok-Some.byte-test.1 c.push.ensures.items c.if-is_err.ensures.negation
    (omega (arith, c.reading-test.true, c.len.ensures)) c.in-Ok-Some.ensures.byte c.in-Ok-Some.ensures.unfailed c.in-Ok-Some.ensures.ended c.in-Ok-Some.ensures.on

pub returns-in-Ok-None-clause-within : goal.returns-in-Ok-None-clause-within
returns-in-Ok-None-clause-within g c =
    let state = g.S.Outside.state in
    takes_next (state c.args.source.now) (state c.reading.source) (state c.read_byte.new.source) c.reading.held.items c.reading.invariant c.in-Ok-None.field-0 (omega (arith, c.reading-test.true, c.len.ensures)) c.in-Ok-None.ensures.byte

pub returns-in-Ok-None-clause-on : goal.returns-in-Ok-None-clause-on
returns-in-Ok-None-clause-on g c = reads_on _ _ _ c.reading.invariant.on c.in-Ok-None.ensures.on

pub returns-then-is_err-clause-memory : goal.returns-then-is_err-clause-memory
returns-then-is_err-clause-memory g c = λ _. c.in-Ok-Some.ensures.unfailed ∙ c.reading.invariant.unfailed

pub returns-then-is_err-clause-unended : goal.returns-then-is_err-clause-unended
returns-then-is_err-clause-unended g c =
    let state = g.S.Outside.state in
    still_unended (state c.args.source.now) (state c.reading.source) (state c.read_byte.new.source) c.reading.held.items c.reading.invariant c.in-Ok-Some.field-0 c.in-Ok-Some.byte c.in-Ok-Some.field-0-is c.in-Ok-Some.ensures.ended

pub returns-in-Err-clause-unended : goal.returns-in-Err-clause-unended
returns-in-Err-clause-unended g c = c.in-Err.ensures.unended ∙ c.reading.invariant.unended

pub returns-in-Err-clause-failed : goal.returns-in-Err-clause-failed
returns-in-Err-clause-failed g c = λ _. c.in-Err.ensures.failed ∙ ap risen c.reading.invariant.unfailed

pub returns-in-Err-clause-stopped : goal.returns-in-Err-clause-stopped
returns-in-Err-clause-stopped g c =
    let state = g.S.Outside.state in
    stops_kept (state c.args.source.now) (state c.reading.source) (state c.read_byte.new.source) c.reading.held.items c.reading.invariant c.in-Err.ensures.kept

pub returns-in-Err-clause-within : goal.returns-in-Err-clause-within
returns-in-Err-clause-within g c =
    let state = g.S.Outside.state in
    takes_stopped _ _ (stops_kept (state c.args.source.now) (state c.reading.source) (state c.read_byte.new.source) c.reading.held.items c.reading.invariant c.in-Err.ensures.kept)

pub returns-in-Err-clause-on : goal.returns-in-Err-clause-on
returns-in-Err-clause-on g c = reads_on _ _ _ c.reading.invariant.on c.in-Err.ensures.on

pub returns-clause-within : goal.returns-clause-within
returns-clause-within g c = takes_stopped _ _ (stops_held _ _ c.reading.held.items c.reading.invariant)
