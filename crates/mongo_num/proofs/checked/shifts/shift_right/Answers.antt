use Rattle.std.proofs.Common.{rules}
use Rattle.mongo_num.proofs.checked.shifts.shift_right.Goals as goal

pub returns-then-WIDTH-places : goal.returns-then-WIDTH-places
returns-then-WIDTH-places g c = search rules

pub overflow_cast-places : goal.overflow_cast-places
overflow_cast-places g c = search rules

pub overflow_shr-wide : goal.overflow_shr-wide
overflow_shr-wide g c = search rules

pub returns : goal.returns
returns g c = search rules
