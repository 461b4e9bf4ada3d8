use Rattle.std.proofs.Common.{refl, sym}
use Rattle.std.proofs.lemmas.Bool.{false≢true}
use Rattle.mongo_wire.proofs.frame_buffer.FrameBuffer.next.Goals as goal

pub unreachable-requires : goal.unreachable-requires
unreachable-requires g c =
    let taken = c.in-Ok-true.ensures.taken c.in-Ok-true.field-0-test in
    absurd (false≢true (c.in-None.ensures.some taken.frame taken.parts taken.holds))

pub returns-in-Some : goal.returns-in-Some
returns-in-Some g c =
    let taken = c.in-Ok-true.ensures.taken c.in-Ok-true.field-0-test in
    let shown = c.in-Some.ensures.shown taken.frame taken.parts taken.holds in (
      (refl, (λ _. tt), record { is_taken = taken; shown = shown; counted = c.in-Ok-true.ensures.counted c.in-Ok-true.field-0-test; memory = c.in-Ok-true.ensures.memory }),
      record {
        after = tt;
        read = record { frame = taken.frame; parts = taken.parts; ref_of = shown; within = taken.within; taken = taken.taken; unstopped = taken.unstopped };
        ended = λ none. absurd (false≢true (sym none));
        refused = tt;
        more = tt;
        again = λ frame rest parts is frame_is within. let (found, holds, left) = c.in-Ok-true.ensures.again frame rest parts is frame_is within in (c.in-Some.ensures.shown frame parts holds, left);
        on = c.in-Ok-true.ensures.on;
      },
    )
