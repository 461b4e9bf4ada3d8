use Rattle.std.proofs.Common.{◌+◌, ◌-◌, length}
use Rattle.mongo_service.specs.Line.{maximum_line_length}
use Rattle.mongo_service.proofs.LineRead.{LineSoFar}
use Rattle.mongo_service.proofs.settings_line.read_settings_line.Given as goal

abbrev pub invariant-reading : goal.invariant-reading
invariant-reading g l = LineSoFar (g.S.Outside.state l.fn.source) (g.S.Outside.state l.source) l.line.items

abbrev pub decreases-reading : goal.decreases-reading
decreases-reading g l = maximum_line_length + 1 - length l.line.items
