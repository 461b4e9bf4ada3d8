use Rattle.std.proofs.Common.{[], ◌∷◌, ◌≤◌, length, inl, arith}
use Rattle.mongo_wire.proofs.ReadStopped.{reads_on}
use Rattle.mongo_service.specs.declared.settings_line.LineError.TheVariants.{BadSettings, Fault, OutOfMemory}
use Rattle.mongo_service.proofs.LineRead.{takes_line, one_more, has_no_line, line_fails, line_runs_out, same_error, no_ok_behind}
use Rattle.mongo_service.proofs.settings_line.read_settings_line.Goals as goal

-- ---- no next byte

pub returns-in_err-byte-clause-line : goal.returns-in_err-byte-clause-line
returns-in_err-byte-clause-line g c = no_ok_behind _ c.from_residual.result c.in_err-byte.field-0.0 c.from_residual.ensures.1

pub returns-in_err-byte-clause-none : goal.returns-in_err-byte-clause-none
returns-in_err-byte-clause-none g c = λ is.
    let state = g.S.Outside.state in
    has_no_line (state c.args.source.now) (state c.reading.source) (state c.next_byte.new.source) c.reading.line.items c.reading.invariant (omega (arith, c.reading-test.true, c.len.ensures))
    (c.in_err-byte.ensures.ended (same_error c.from_residual.result c.in_err-byte.field-0.0 BadSettings c.from_residual.ensures.1 is))

pub returns-in_err-byte-clause-failed : goal.returns-in_err-byte-clause-failed
returns-in_err-byte-clause-failed g c = λ is.
    let state = g.S.Outside.state in
    let fault = same_error c.from_residual.result c.in_err-byte.field-0.0 Fault c.from_residual.ensures.1 is in
    line_fails (state c.args.source.now) (state c.reading.source) (state c.next_byte.new.source) c.reading.line.items c.reading.invariant (omega (arith, c.reading-test.true, c.len.ensures))
    (c.in_err-byte.ensures.failed fault) (c.in_err-byte.ensures.within fault)

pub returns-in_err-byte-clause-memory : goal.returns-in_err-byte-clause-memory
returns-in_err-byte-clause-memory g c = λ is. absurd (c.in_err-byte.ensures.no_memory (same_error c.from_residual.result c.in_err-byte.field-0.0 OutOfMemory c.from_residual.ensures.1 is))

pub returns-in_err-byte-clause-on : goal.returns-in_err-byte-clause-on
returns-in_err-byte-clause-on g c = reads_on _ _ _ c.reading.invariant.on c.in_err-byte.ensures.on

-- ---- the next byte

pub returns-then-byte-eq10-clause-line : goal.returns-then-byte-eq10-clause-line
returns-then-byte-eq10-clause-line g c =
    let state = g.S.Outside.state in
    takes_line (state c.args.source.now) (state c.reading.source) (state c.next_byte.new.source) c.reading.line.items c.reading.invariant (omega (arith, c.reading-test.true, c.len.ensures)) c.in_ok-byte.byte c.if-byte-eq10.true c.in_ok-byte.ensures.byte c.in_ok-byte.ensures.unstopped

pub returns-then-byte-eq10-clause-on : goal.returns-then-byte-eq10-clause-on
returns-then-byte-eq10-clause-on g c = reads_on _ _ _ c.reading.invariant.on c.in_ok-byte.ensures.on

pub reading-preserved : goal.reading-preserved
reading-preserved g c =
    let state = g.S.Outside.state in
    one_more (state c.args.source.now) (state c.reading.source) (state c.next_byte.new.source) c.reading.line.items c.reading.invariant (omega (arith, c.reading-test.true, c.len.ensures)) c.in_ok-byte.byte c.push.new.self.items c.if-byte-eq10.false c.in-Ok.ensures.items c.in_ok-byte.ensures.byte c.in_ok-byte.ensures.unstopped c.in_ok-byte.ensures.on

pub returns-in-Err-clause-memory : goal.returns-in-Err-clause-memory
returns-in-Err-clause-memory g c = λ is.
    let state = g.S.Outside.state in
    let last = c.in_ok-byte.byte ∷ [] in
    let one : length last ≤ 1 = omega arith in
    line_runs_out (state c.args.source.now) (state c.reading.source) (state c.next_byte.new.source) c.reading.line.items c.reading.invariant (omega (arith, c.reading-test.true, c.len.ensures)) c.in_ok-byte.ensures.unstopped (last, one, c.in_ok-byte.ensures.byte)

pub returns-in-Err-clause-on : goal.returns-in-Err-clause-on
returns-in-Err-clause-on g c = reads_on _ _ _ c.reading.invariant.on c.in_ok-byte.ensures.on

-- ---- too long

pub returns-clause-none : goal.returns-clause-none
returns-clause-none g c = λ is. inl (record {
  front = c.reading.line.items;
  taken = c.reading.invariant.front;
  unstopped = c.reading.invariant.still;
  unended = c.reading.invariant.unended;
  long = omega (arith, c.reading-test.false, c.len.ensures, c.reading.invariant.within);
})

pub returns-clause-on : goal.returns-clause-on
returns-clause-on g c = c.reading.invariant.on
