use Rattle.std.proofs.Common.{length}
use Rattle.mongo_wire.proofs.Contents.{Took}
use Rattle.mongo_wire.proofs.held_frame.find_sections.Given as goal

-- sections were taken, and the body of one of them at most; their sequences were copied
abbrev pub invariant-sections : goal.invariant-sections
invariant-sections l = Took l.bytes l.rest l.body l.initial.copies l.copies

abbrev pub decreases-sections : goal.decreases-sections
decreases-sections l = length l.rest
