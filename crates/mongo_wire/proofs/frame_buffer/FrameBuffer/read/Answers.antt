use Rattle.std.proofs.Common.{refl}
use Rattle.std.proofs.lemmas.Bool.{false≢true}
use Rattle.mongo_wire.proofs.frame_buffer.FrameBuffer.read.Goals as goal

pub unreachable-requires : goal.unreachable-requires
unreachable-requires g c =
    let taken = c.in-Ok.ensures.taken in
    absurd (false≢true (c.in-None.ensures.some taken.frame taken.parts taken.holds))

pub returns-in-Some : goal.returns-in-Some
returns-in-Some g c =
    let taken = c.in-Ok.ensures.taken in
    let shown = c.in-Some.ensures.shown taken.frame taken.parts taken.holds in (
      (refl, (λ _. tt), record { is_taken = taken; shown = shown; counted = c.in-Ok.ensures.counted; memory = c.in-Ok.ensures.memory }),
      record {
        after = tt;
        read = record { frame = taken.frame; parts = taken.parts; ref_of = shown; within = taken.within; taken = taken.taken; unstopped = taken.unstopped };
        refused = tt;
        again = λ frame rest parts is frame_is within. let (holds, left) = c.in-Ok.ensures.again frame rest parts is frame_is within in (c.in-Some.ensures.shown frame parts holds, left);
        on = c.in-Ok.ensures.on;
      },
    )
