use Rattle.std.proofs.Common.{rules}
use Rattle.mongo_num.proofs.checked.shifts.shift_left.Goals as goal

pub returns-then-WIDTH-places : goal.returns-then-WIDTH-places
returns-then-WIDTH-places g c = search rules

pub moved_up-requires-clause-narrow : goal.moved_up-requires-clause-narrow
moved_up-requires-clause-narrow g c = search rules

pub moved_up-requires-clause-below : goal.moved_up-requires-clause-below
moved_up-requires-clause-below g c = search rules

pub returns : goal.returns
returns g c = search rules
