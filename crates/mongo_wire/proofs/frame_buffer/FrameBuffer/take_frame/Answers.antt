use Rattle.std.proofs.Common.{rules, arith}
use Rattle.mongo_wire.specs.Header.{maximum_of}
use Rattle.mongo_wire.proofs.FrameRead.{stays_within}
use Rattle.mongo_wire.proofs.frame_buffer.FrameBuffer.take_frame.Goals as goal

pub returns-in-Ok-true-clause-taken : goal.returns-in-Ok-true-clause-taken
returns-in-Ok-true-clause-taken g c =
    let taken = c.in-Ok-true.ensures.taken c.in-Ok-true.field-0-test in
    let holds = taken.holds in
    record {
      frame = taken.frame;
      parts = taken.parts;
      holds = record { held = holds.held; last_is = holds.last_is; is_held = holds.is_held; bytes_are = holds.bytes_are };
      within = taken.within;
      taken = taken.taken;
      unstopped = taken.unstopped;
    }

pub returns-in-Ok-true-clause-again : goal.returns-in-Ok-true-clause-again
returns-in-Ok-true-clause-again g c = λ frame rest parts is frame_is within. let (found, holds, left) = c.in-Ok-true.ensures.again frame rest parts is frame_is within in (record { held = holds.held; last_is = holds.last_is; is_held = holds.is_held; bytes_are = holds.bytes_are }, search (rules, left))

pub returns-in-Ok-true-clause-counted : goal.returns-in-Ok-true-clause-counted
returns-in-Ok-true-clause-counted g c = c.in-Ok-true.ensures.counted c.in-Ok-true.field-0-test

pub returns-in-Ok-true-clause-memory : goal.returns-in-Ok-true-clause-memory
returns-in-Ok-true-clause-memory g c = let memory = c.in-Ok-true.ensures.memory in record { came = memory.came; within = memory.within; keeps = memory.keeps }

pub returns-in-Ok-true-clause-on : goal.returns-in-Ok-true-clause-on
returns-in-Ok-true-clause-on g c = c.in-Ok-true.ensures.on

pub returns-in-Ok-false-clause-emptied : goal.returns-in-Ok-false-clause-emptied
returns-in-Ok-false-clause-emptied g c =
    let cleared = c.in-Ok-false.ensures.none c.in-Ok-false.field-0-test in
    record {
      nothing = record { none = cleared.nothing.none; start = search (rules, cleared.nothing.start); empty = search (rules, cleared.nothing.empty) };
      frames = cleared.frames;
    }

pub returns-in-Ok-false-clause-memory : goal.returns-in-Ok-false-clause-memory
returns-in-Ok-false-clause-memory g c =
    let memory = c.in-Ok-false.ensures.memory in
    record {
      came = λ had left had_is left_is. omega (arith, memory.came had left had_is left_is);
      within = stays_within (maximum_of c.args.maximum) c.args.self.now c.take_next_frame.new.self _ (omega arith) memory.within;
      keeps = omega (arith, memory.keeps);
    }

pub returns-in-Ok-false-clause-on : goal.returns-in-Ok-false-clause-on
returns-in-Ok-false-clause-on g c = c.in-Ok-false.ensures.on
