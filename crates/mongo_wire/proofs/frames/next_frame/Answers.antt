use Rattle.std.proofs.Common.{sym, subst}
use Rattle.mongo_wire.specs.Message.{IsUnreadable}
use Rattle.mongo_wire.proofs.frames.next_frame.Goals as goal

pub returns-in-Err-clause-again : goal.returns-in-Err-clause-again
returns-in-Err-clause-again g c = λ frame rest parts is frame_is within. subst IsUnreadable (sym c.into.ensures) (c.in-Err.ensures.again frame rest parts is frame_is within)
