use Rattle.std.proofs.Common.{length, take, ◌-◌, ◌≤◌}
use Rattle.std.specs.Io.KnownBytes.{Consumes}
use Rattle.mongo_wire.specs.Outside.{ReadsOn, Unstopped}
use Rattle.mongo_wire.proofs.reading.fill.Given as goal

-- the front of the buffer is what the source gave so far
abbrev pub invariant-filling : goal.invariant-filling
invariant-filling g l =
    let state = g.S.Outside.state in
    record {
      within : l.at ≤ length l.buf;
      front : Consumes (state l.fn.source).left (state l.source).left (take l.at l.buf);
      still : Unstopped (state l.fn.source) (state l.source);
      on : ReadsOn (state l.fn.source) (state l.source);
    }

abbrev pub decreases-filling : goal.decreases-filling
decreases-filling g l = length l.initial.buf - l.at
