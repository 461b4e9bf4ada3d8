use Rattle.std.proofs.Common.{sym, ◌∙◌, subst}
use Rattle.mongo_wire.specs.Held.{IsHeldFrame, LiesIn}
use Rattle.mongo_wire.proofs.Found.{one_held_frame}
use Rattle.mongo_wire.proofs.frame_buffer.FrameBuffer.message.Goals as goal

pub of-requires : goal.of-requires
of-requires c = subst (λ bytes. LiesIn bytes c.in-Some.held) (sym c.as_bytes.ensures) (c.args.self.now.lies c.in-Some.held c.in-Some.is)

pub returns-in-Some-clause-shown : goal.returns-in-Some-clause-shown
returns-in-Some-clause-shown c = λ frame parts holds.
    c.of.ensures.shown frame parts (subst (IsHeldFrame frame parts) (one_held_frame holds.held c.in-Some.held (sym holds.last_is ∙ c.in-Some.is)) holds.is_held) (c.as_bytes.ensures ∙ holds.bytes_are)
