use Rattle.std.proofs.Common.{rules, sym, subst, ◌≡◌, length, refl, ap, ◌∙◌, vec_capacity, arith}
use Rattle.std.specs.Io.KnownBytes.{Consumes}
use Rattle.mongo_wire.specs.Error.{kind_of_frame_fault}
use Rattle.mongo_wire.specs.Header.{maximum_of}
use Rattle.mongo_wire.specs.Outside.{risen}
use Rattle.mongo_wire.specs.declared.error.ErrorKind.TheVariants.{InvalidResponse}
use Rattle.mongo_wire.proofs.FrameRead.{header_refused, unknown_row, header_stopped, same_taken, no_refused_frame, memory_same, memory_later, more_came, no_end}
use Rattle.mongo_wire.proofs.ReadStopped.{reads_on}
use Rattle.mongo_wire.proofs.frame_buffer.FrameBuffer.take_next_frame.Goals as goal

pub returns-in-Ok-take_rest-clause-again : goal.returns-in-Ok-take_rest-clause-again
returns-in-Ok-take_rest-clause-again g c = λ frame rest parts is frame_is within.
    let state = g.S.Outside.state in
    let same = same_taken (maximum_of c.args.maximum) (state c.args.source.now) (state c.take_rest.new.source) c.take_rest.new.self frame rest parts is frame_is (c.in-Ok-take_rest.ensures.taken (state c.args.source.now) (subst (Consumes _ _) (sym c.in-Ok.ensures.spelled) (c.in-Ok-true.ensures.filled c.in-Ok-true.field-0-test)) (c.in-Ok-true.ensures.unstopped c.in-Ok-true.field-0-test)) in
    (refl, same.0, same.1)

pub returns-in-Err-take_rest-clause-again : goal.returns-in-Err-take_rest-clause-again
returns-in-Err-take_rest-clause-again g c = λ frame rest parts is frame_is within.
    let head = c.in-Ok-true.ensures in
    let state = g.S.Outside.state in
    no_refused_frame (kind_of_frame_fault c.in-Err-take_rest.fault) (maximum_of c.args.maximum) _ _ frame rest parts is frame_is within (c.in-Err-take_rest.ensures.refused (state c.args.source.now) (subst (Consumes _ _) (sym c.in-Ok.ensures.spelled) (head.filled c.in-Ok-true.field-0-test)) (head.unstopped c.in-Ok-true.field-0-test) head.on)

pub returns-in-Err-clause-refused : goal.returns-in-Err-clause-refused
returns-in-Err-clause-refused g c =
    let refused = c.in-Err.ensures in
    header_stopped (kind_of_frame_fault c.in-Err.fault) (maximum_of c.args.maximum) _ _ refused.on.tells refused.refused

pub returns-in-Ok-take_rest-clause-memory : goal.returns-in-Ok-take_rest-clause-memory
returns-in-Ok-take_rest-clause-memory g c =
    let state = g.S.Outside.state in
    memory_later (maximum_of c.args.maximum) (state c.args.source.now) (state c.fill_or_end.new.source) (state c.take_rest.new.source) _ c.args.self.now c.clear.new.self c.take_rest.new.self (ap (λ s. vec_capacity s) c.clear.ensures.store) (c.in-Ok-true.ensures.filled c.in-Ok-true.field-0-test) c.in-Ok-take_rest.ensures.memory

pub returns-in-Err-take_rest-clause-memory : goal.returns-in-Err-take_rest-clause-memory
returns-in-Err-take_rest-clause-memory g c =
    let state = g.S.Outside.state in
    memory_later (maximum_of c.args.maximum) (state c.args.source.now) (state c.fill_or_end.new.source) (state c.take_rest.new.source) _ c.args.self.now c.clear.new.self c.take_rest.new.self (ap (λ s. vec_capacity s) c.clear.ensures.store) (c.in-Ok-true.ensures.filled c.in-Ok-true.field-0-test) c.in-Err-take_rest.ensures.memory

pub returns-in-Ok-take_rest-clause-taken : goal.returns-in-Ok-take_rest-clause-taken
returns-in-Ok-take_rest-clause-taken g c = λ _. c.in-Ok-take_rest.ensures.taken (g.S.Outside.state c.args.source.now) (subst (Consumes _ _) (sym c.in-Ok.ensures.spelled) (c.in-Ok-true.ensures.filled c.in-Ok-true.field-0-test)) (c.in-Ok-true.ensures.unstopped c.in-Ok-true.field-0-test)

pub returns-in-Ok-take_rest-clause-counted : goal.returns-in-Ok-take_rest-clause-counted
returns-in-Ok-take_rest-clause-counted g c = λ _. c.in-Ok-take_rest.ensures.counted ∙ ap risen c.clear.ensures.frames

pub returns-in-Ok-take_rest-clause-on : goal.returns-in-Ok-take_rest-clause-on
returns-in-Ok-take_rest-clause-on g c = reads_on _ _ _ c.in-Ok-true.ensures.on c.in-Ok-take_rest.ensures.on

pub returns-in-Err-take_rest-clause-refused : goal.returns-in-Err-take_rest-clause-refused
returns-in-Err-take_rest-clause-refused g c = c.in-Err-take_rest.ensures.refused (g.S.Outside.state c.args.source.now) (subst (Consumes _ _) (sym c.in-Ok.ensures.spelled) (c.in-Ok-true.ensures.filled c.in-Ok-true.field-0-test)) (c.in-Ok-true.ensures.unstopped c.in-Ok-true.field-0-test) c.in-Ok-true.ensures.on

pub returns-in-Err-take_rest-clause-emptied : goal.returns-in-Err-take_rest-clause-emptied
returns-in-Err-take_rest-clause-emptied g c =
    let emptied = c.in-Err-take_rest.ensures.emptied in
    record { nothing = emptied.nothing; frames = emptied.frames ∙ c.clear.ensures.frames }

pub returns-in-Err-take_rest-clause-on : goal.returns-in-Err-take_rest-clause-on
returns-in-Err-take_rest-clause-on g c = reads_on _ _ _ c.in-Ok-true.ensures.on c.in-Err-take_rest.ensures.on

pub returns-in-Ok-false-clause-ended : goal.returns-in-Ok-false-clause-ended
returns-in-Ok-false-clause-ended g c = λ _. c.in-Ok-false.ensures.ended c.in-Ok-false.field-0-test

pub returns-in-Ok-false-clause-none : goal.returns-in-Ok-false-clause-none
returns-in-Ok-false-clause-none g c = λ _. record { nothing = c.clear.ensures.nothing; frames = c.clear.ensures.frames }

pub returns-in-Ok-false-clause-on : goal.returns-in-Ok-false-clause-on
returns-in-Ok-false-clause-on g c = c.in-Ok-false.ensures.on

pub returns-in-Err-clause-emptied : goal.returns-in-Err-clause-emptied
returns-in-Err-clause-emptied g c = record { nothing = c.clear.ensures.nothing; frames = c.clear.ensures.frames }

pub returns-in-Err-clause-more : goal.returns-in-Err-clause-more
returns-in-Err-clause-more g c = c.in-Err.ensures.more

pub returns-in-Err-clause-on : goal.returns-in-Err-clause-on
returns-in-Err-clause-on g c = c.in-Err.ensures.on

pub returns-in-Err-take_rest-clause-more : goal.returns-in-Err-take_rest-clause-more
returns-in-Err-take_rest-clause-more g c = λ _.
    let some : length c.fill_or_end.new.buf ≡ 16 = search rules in
    more_came _ _ c.fill_or_end.new.buf (c.in-Ok-true.ensures.filled c.in-Ok-true.field-0-test) (omega (arith, some))

pub returns-in-Ok-false-clause-again : goal.returns-in-Ok-false-clause-again
returns-in-Ok-false-clause-again g c = λ frame rest parts is frame_is within.
    absurd (no_end _ frame rest parts is frame_is (c.in-Ok-false.ensures.ended c.in-Ok-false.field-0-test).none)

pub returns-in-Ok-false-clause-memory : goal.returns-in-Ok-false-clause-memory
returns-in-Ok-false-clause-memory g c = memory_same _ _ _ c.args.self.now c.clear.new.self (ap (λ s. vec_capacity s) c.clear.ensures.store)

pub returns-in-Err-clause-again : goal.returns-in-Err-clause-again
returns-in-Err-clause-again g c = λ frame rest parts is frame_is within.
    let refused = c.in-Err.ensures in
    let kind = kind_of_frame_fault c.in-Err.fault in
    no_refused_frame kind (maximum_of c.args.maximum) _ _ frame rest parts is frame_is within (header_stopped kind (maximum_of c.args.maximum) _ _ refused.on.tells refused.refused)

pub returns-in-Err-clause-memory : goal.returns-in-Err-clause-memory
returns-in-Err-clause-memory g c = memory_same _ _ _ c.args.self.now c.clear.new.self (ap (λ s. vec_capacity s) c.clear.ensures.store)

-- the op code is unknown

pub returns-in-Err-decode-clause-refused : goal.returns-in-Err-decode-clause-refused
returns-in-Err-decode-clause-refused g c =
    let state = g.S.Outside.state in
    let unknown = unknown_row (maximum_of c.args.maximum) c.fill_or_end.new.buf c.in-Err-decode.fault c.in-Err-decode.ensures.unknown in
    header_refused (InvalidResponse c.in-Err-decode.fault) (maximum_of c.args.maximum) (state c.args.source.now) (state c.fill_or_end.new.source) c.fill_or_end.new.buf (c.in-Ok-true.ensures.filled c.in-Ok-true.field-0-test) (c.in-Ok-true.ensures.unstopped c.in-Ok-true.field-0-test) (search rules) unknown

pub returns-in-Err-decode-clause-again : goal.returns-in-Err-decode-clause-again
returns-in-Err-decode-clause-again g c = λ frame rest parts is frame_is within.
    let state = g.S.Outside.state in
    let unknown = unknown_row (maximum_of c.args.maximum) c.fill_or_end.new.buf c.in-Err-decode.fault c.in-Err-decode.ensures.unknown in
    let kind = InvalidResponse c.in-Err-decode.fault in
    let refused = header_refused kind (maximum_of c.args.maximum) (state c.args.source.now) (state c.fill_or_end.new.source) c.fill_or_end.new.buf (c.in-Ok-true.ensures.filled c.in-Ok-true.field-0-test) (c.in-Ok-true.ensures.unstopped c.in-Ok-true.field-0-test) (search rules) unknown in
    no_refused_frame kind (maximum_of c.args.maximum) (state c.args.source.now) (state c.fill_or_end.new.source) frame rest parts is frame_is within refused

pub returns-in-Err-decode-clause-more : goal.returns-in-Err-decode-clause-more
returns-in-Err-decode-clause-more g c = λ _.
    let some : length c.fill_or_end.new.buf ≡ 16 = search rules in
    more_came _ _ c.fill_or_end.new.buf (c.in-Ok-true.ensures.filled c.in-Ok-true.field-0-test) (omega (arith, some))

pub returns-in-Err-decode-clause-emptied : goal.returns-in-Err-decode-clause-emptied
returns-in-Err-decode-clause-emptied g c = record { nothing = c.clear.ensures.nothing; frames = c.clear.ensures.frames }

pub returns-in-Err-decode-clause-memory : goal.returns-in-Err-decode-clause-memory
returns-in-Err-decode-clause-memory g c = memory_same _ _ _ c.args.self.now c.clear.new.self (ap (λ s. vec_capacity s) c.clear.ensures.store)

pub returns-in-Err-decode-clause-on : goal.returns-in-Err-decode-clause-on
returns-in-Err-decode-clause-on g c = c.in-Ok-true.ensures.on
