use Rattle.std.proofs.Common.{◌+◌, ◌-◌, length}
use Rattle.mongo_settings.specs.Settings.{maximum_settings_length}
use Rattle.mongo_connect.proofs.FirstLine.{HeldSoFar}
use Rattle.mongo_connect.proofs.input.read_line.Given as goal

abbrev pub invariant-reading : goal.invariant-reading
invariant-reading g l = HeldSoFar (g.S.Outside.state l.fn.source) (g.S.Outside.state l.source) l.held.items

abbrev pub decreases-reading : goal.decreases-reading
decreases-reading g l = maximum_settings_length + 1 - length l.held.items
