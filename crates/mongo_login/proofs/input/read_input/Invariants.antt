use Rattle.std.proofs.Common.{◌≤◌, ◌+◌, ◌-◌, length}
use Rattle.std.specs.Io.KnownBytes.{Consumes}
use Rattle.mongo_wire.specs.Outside.{ReadsOn, NoReadFailed, NoReadEnded}
use Rattle.mongo_settings.specs.Settings.{maximum_settings_length}
use Rattle.mongo_login.proofs.input.read_input.Given as goal

-- what is held is what the source gave so far; no read failed, and none met the end
abbrev pub invariant-reading : goal.invariant-reading
invariant-reading g l =
    let state = g.S.Outside.state in
    record {
      within : length l.held.items ≤ maximum_settings_length + 1;
      front : Consumes (state l.fn.source).left (state l.source).left l.held.items;
      unfailed : NoReadFailed (state l.fn.source) (state l.source);
      unended : NoReadEnded (state l.fn.source) (state l.source);
      on : ReadsOn (state l.fn.source) (state l.source);
    }

abbrev pub decreases-reading : goal.decreases-reading
decreases-reading g l = maximum_settings_length + 1 - length l.held.items
