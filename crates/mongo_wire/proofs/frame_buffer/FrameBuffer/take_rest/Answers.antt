use Rattle.std.proofs.Common.{rules, arith, ◌∙◌, ◌≡◌, ◌≤◌, ◌≤ℤ◌, pos, ◌⊎◌, sym, ℕ, ◌-◌, ◌++◌, length, take, subst, ap, vec_capacity}
use Rattle.std.proofs.lemmas.List.{length-take-le}
use Rattle.std.specs.Io.KnownBytes.{Consumes}
use Rattle.mongo_wire.specs.Error.{kind_of_frame_fault}
use Rattle.mongo_wire.specs.Outside.{ReadStops, risen}
use Rattle.mongo_wire.specs.Header.{maximum_of, header_bytes}
use Rattle.mongo_wire.specs.Buffer.{memory_of}
use Rattle.mongo_wire.specs.Copies.{CopiesSequences}
use Rattle.mongo_wire.specs.Held.{NoFrame, IsHeld}
use Rattle.mongo_wire.proofs.Found.{parts_lie}
use Rattle.mongo_wire.proofs.ReadStopped.{reads_still, unstopped_on}
use Rattle.mongo_wire.proofs.HeaderBack.{sixteen_bytes, length_back, row_back}
use Rattle.mongo_wire.proofs.FrameRead.{header_refused, within_rest, rest_stopped, sections_refused, stopped_whole, frame_taken, memory_same}
use Rattle.mongo_wire.proofs.frame_buffer.FrameBuffer.take_rest.Goals as goal

-- nothing comes before what is wanted
whole : (n : ℕ) → n - 0 ≡ n
whole n = omega arith

pub returns-in-Err-clause-refused : goal.returns-in-Err-clause-refused
returns-in-Err-clause-refused g c = λ before p still on.
    header_refused (kind_of_frame_fault c.in-Err.fault) (maximum_of c.args.maximum) before _ (header_bytes c.args.header) p still (sixteen_bytes c.args.header) (row_back (maximum_of c.args.maximum) c.args.header (search rules) ∙ c.in-Err.ensures.row)

pub returns-in-Err-take_into-clause-refused : goal.returns-in-Err-take_into-clause-refused
returns-in-Err-take_into-clause-refused g c = λ before p still on.
    let start = c.in-Ok.ensures in
    let refused = c.in-Err-take_into.ensures in
    let state = g.S.Outside.state in
    let stops = subst (λ n. ReadStops (kind_of_frame_fault c.in-Err-take_into.fault) (state c.args.source.now) (state c.take_into.new.source) n) (whole c.in-Ok.rest) refused.refused in
    rest_stopped (kind_of_frame_fault c.in-Err-take_into.fault) (maximum_of c.args.maximum) before _ _ (header_bytes c.args.header) c.in-Ok.rest p still on.tells refused.on.tells (sixteen_bytes c.args.header) (row_back (maximum_of c.args.maximum) c.args.header (search rules) ∙ start.passes) (start.length ∙ sym (length_back c.args.header (search rules))) refused.some stops

pub returns-in-Ok-None-clause-refused : goal.returns-in-Ok-None-clause-refused
returns-in-Ok-None-clause-refused g c = λ before p still on.
    let start = c.in-Ok.ensures in
    let rest = c.in-Ok.rest in
    let bytes = take rest c.take_into.new.store.items in
    let size : length bytes ≡ rest = length-take-le rest c.take_into.new.store.items c.in-Ok-take_into.ensures.all in
    let state = g.S.Outside.state in
    let taken = subst (λ n. Consumes (state c.args.source.now).left (state c.take_into.new.source).left (take n c.take_into.new.store.items)) (whole rest) c.in-Ok-take_into.ensures.taken in
    sections_refused (maximum_of c.args.maximum) before (state c.args.source.now) (state c.take_into.new.source) (header_bytes c.args.header) bytes p taken (unstopped_on _ _ _ still c.in-Ok-take_into.ensures.unstopped) (sixteen_bytes c.args.header) (row_back (maximum_of c.args.maximum) c.args.header (search rules) ∙ start.passes) (rw size (start.length ∙ sym (length_back c.args.header (search rules))))
    (subst (λ s. NoFrame (header_bytes c.args.header ++ take rest s)) c.as_slice.ensures.value (rw c.in-Ok-None.field-0-is at c.in-Ok-None.ensures.held))

pub keep-requires-clause-lies : goal.keep-requires-clause-lies
keep-requires-clause-lies g c =
    parts_lie c.args.header _ c.in-Ok-Some.frame (subst (λ s. IsHeld (header_bytes c.args.header ++ take c.in-Ok.rest s) c.in-Ok-Some.frame) c.as_slice.ensures.value (rw c.in-Ok-Some.field-0-is at c.in-Ok-Some.ensures.held))

pub returns-in-Ok-Some-clause-taken : goal.returns-in-Ok-Some-clause-taken
returns-in-Ok-Some-clause-taken g c = λ before p still.
    let rest = c.in-Ok.rest in
    let bytes = take rest c.take_into.new.store.items in
    let size : length bytes ≡ rest = length-take-le rest c.take_into.new.store.items c.in-Ok-take_into.ensures.all in
    let state = g.S.Outside.state in
    let taken = subst (λ n. Consumes (state c.args.source.now).left (state c.take_into.new.source).left (take n c.take_into.new.store.items)) (whole rest) c.in-Ok-take_into.ensures.taken in
    frame_taken (maximum_of c.args.maximum) before (state c.args.source.now) (state c.take_into.new.source) (header_bytes c.args.header) bytes rest c.in-Ok-Some.frame c.keep.new.self p taken (unstopped_on _ _ _ still c.in-Ok-take_into.ensures.unstopped) (sixteen_bytes c.args.header) size c.in-Ok.ensures.within
    (subst (λ s. IsHeld (header_bytes c.args.header ++ take rest s) c.in-Ok-Some.frame) c.as_slice.ensures.value (rw c.in-Ok-Some.field-0-is at c.in-Ok-Some.ensures.held)) c.keep.ensures.last c.keep.ensures.held

pub returns-in-Err-take_into-clause-memory : goal.returns-in-Err-take_into-clause-memory
returns-in-Err-take_into-clause-memory g c =
    let same = ap (λ s. vec_capacity s) c.clear.ensures.store in
    let taken = c.in-Err-take_into.ensures in
    record {
      came = λ had left had_is left_is. omega (arith, same, taken.came had left had_is left_is);
      within = within_rest (maximum_of c.args.maximum) _ _ c.in-Ok.rest c.in-Ok.ensures.within (omega (arith, same, taken.wanted));
      keeps = omega (arith, same, taken.keeps);
    }

pub returns-in-Ok-Some-clause-memory : goal.returns-in-Ok-Some-clause-memory
returns-in-Ok-Some-clause-memory g c =
    let maximum = maximum_of c.args.maximum in
    let had = memory_of c.args.self.now in
    let same = ap (λ s. vec_capacity s) c.clear.ensures.store in
    let taken = c.in-Ok-take_into.ensures in
    record {
      came = λ had left had_is left_is. omega (arith, same, c.keep.ensures.memory, taken.came had left had_is left_is);
      within = subst (λ memory. (memory ≤ had) ⊎ (pos memory ≤ℤ maximum)) (sym c.keep.ensures.memory) (within_rest maximum had _ c.in-Ok.rest c.in-Ok.ensures.within (omega (arith, same, taken.wanted)));
      keeps = omega (arith, same, c.keep.ensures.memory, taken.keeps);
    }

pub returns-in-Ok-None-clause-memory : goal.returns-in-Ok-None-clause-memory
returns-in-Ok-None-clause-memory g c =
    let same = ap (λ s. vec_capacity s) c.clear.ensures.store in
    let taken = c.in-Ok-take_into.ensures in
    record {
      came = λ had left had_is left_is. omega (arith, same, taken.came had left had_is left_is);
      within = within_rest (maximum_of c.args.maximum) _ _ c.in-Ok.rest c.in-Ok.ensures.within (omega (arith, same, taken.wanted));
      keeps = omega (arith, same, taken.keeps);
    }

pub returns-in-Err-clause-on : goal.returns-in-Err-clause-on
returns-in-Err-clause-on g c = reads_still (g.S.Outside.state c.args.source.now)

pub returns-in-Err-take_into-clause-on : goal.returns-in-Err-take_into-clause-on
returns-in-Err-take_into-clause-on g c = c.in-Err-take_into.ensures.on

pub returns-in-Ok-None-clause-on : goal.returns-in-Ok-None-clause-on
returns-in-Ok-None-clause-on g c = c.in-Ok-take_into.ensures.on

pub returns-in-Ok-Some-clause-on : goal.returns-in-Ok-Some-clause-on
returns-in-Ok-Some-clause-on g c = c.in-Ok-take_into.ensures.on

pub returns-in-Ok-Some-clause-counted : goal.returns-in-Ok-Some-clause-counted
returns-in-Ok-Some-clause-counted g c = c.keep.ensures.frames ∙ ap risen c.clear.ensures.frames

pub returns-in-Err-clause-memory : goal.returns-in-Err-clause-memory
returns-in-Err-clause-memory g c = memory_same _ _ _ c.args.self.now c.clear.new.self (ap (λ s. vec_capacity s) c.clear.ensures.store)

pub returns-in-Err-clause-emptied : goal.returns-in-Err-clause-emptied
returns-in-Err-clause-emptied g c = record { nothing = c.clear.ensures.nothing; frames = c.clear.ensures.frames }

pub returns-in-Ok-Some-clause-copied : goal.returns-in-Ok-Some-clause-copied
returns-in-Ok-Some-clause-copied g c =
    let bytes = ap (take c.in-Ok.rest) c.as_slice.ensures.value ∙ sym c.keep.ensures.held in
    subst (λ b. CopiesSequences b c.args.copies.now c.of.new.copies) bytes (rw c.in-Ok-Some.field-0-is at c.in-Ok-Some.ensures.copied)

pub returns-in-Err-of-clause-refused : goal.returns-in-Err-of-clause-refused
returns-in-Err-of-clause-refused g c = λ before p still on.
    let start = c.in-Ok.ensures in
    let rest = c.in-Ok.rest in
    let bytes = take rest c.take_into.new.store.items in
    let size : length bytes ≡ rest = length-take-le rest c.take_into.new.store.items c.in-Ok-take_into.ensures.all in
    let state = g.S.Outside.state in
    let taken = subst (λ n. Consumes (state c.args.source.now).left (state c.take_into.new.source).left (take n c.take_into.new.store.items)) (whole rest) c.in-Ok-take_into.ensures.taken in
    stopped_whole (maximum_of c.args.maximum) before (state c.args.source.now) (state c.take_into.new.source) (header_bytes c.args.header) bytes p taken (unstopped_on _ _ _ still c.in-Ok-take_into.ensures.unstopped) (sixteen_bytes c.args.header) (row_back (maximum_of c.args.maximum) c.args.header (search rules) ∙ start.passes) (rw size (start.length ∙ sym (length_back c.args.header (search rules))))
