use Rattle.std.proofs.Common.{arith, ◌≡◌, take, sym, ap, ◌∙◌, subst}
use Rattle.std.proofs.lemmas.List.{take-take}
use Rattle.mongo_wire.specs.Held.{LiesIn}
use Rattle.mongo_wire.proofs.frame_buffer.FrameBuffer.try_clone.Goals as goal

pub invariant_of-result-clause-lies : goal.invariant_of-result-clause-lies
invariant_of-result-clause-lies c = λ frame is.
    let size = c.args.self.now.size in
    let items = c.args.self.now.store.items in
    let same : take size c.in_ok-copy_of_held.field-0.items ≡ take size items = ap (take size) (c.in_ok-copy_of_held.ensures.bytes ∙ c.as_bytes.ensures) ∙ take-take size size items (omega arith) in
    subst (λ bytes. LiesIn bytes frame) (sym same) (c.args.self.now.lies frame is)
