use Rattle.std.proofs.Common.{◌≡◌, length, take, ◌-◌, ◌≤◌}
use Rattle.std.specs.Io.KnownBytes.{Appends}
use Rattle.mongo_wire.specs.Outside.{WritesOn}
use Rattle.mongo_wire.proofs.writing.write_all.Given as goal

-- a front of the bytes is written so far
abbrev pub invariant-writing : goal.invariant-writing
invariant-writing g l =
    let state = g.K.Outside.state in
    record {
      within : l.at ≤ length l.bytes;
      front : Appends (state l.fn.sink).written (state l.sink).written (take l.at l.bytes);
      still : (state l.sink).write_faults ≡ (state l.fn.sink).write_faults;
      on : WritesOn (state l.fn.sink) (state l.sink);
    }

abbrev pub decreases-writing : goal.decreases-writing
decreases-writing g l = length l.bytes - l.at
