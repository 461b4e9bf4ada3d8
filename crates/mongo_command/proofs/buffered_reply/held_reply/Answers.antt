use Rattle.std.proofs.lemmas.Bool.{false≢true}
use Rattle.mongo_command.proofs.buffered_reply.held_reply.Goals as goal

pub unreachable-requires : goal.unreachable-requires
unreachable-requires c = let held = c.requires in false≢true (c.in-None.ensures.some held.0 held.1 held.2)
