use Rattle.std.proofs.Common.{arith, ◌≡◌, ◌≤◌, ◌+◌, ◌-◌, length, take, drop, subst, sym, ◌∙◌}
use Rattle.std.proofs.KnownBytes.{Consumes-trans}
use Rattle.std.specs.Io.KnownBytes.{Consumes}
use Rattle.mongo_wire.specs.Error.{kind_of_frame_fault}
use Rattle.mongo_wire.proofs.ReadStopped.{length_between, stops_after, same_shorter_front, next_part, came_before, came_then, reads_on, unstopped_on}
use Rattle.mongo_wire.proofs.reading.take_into.Goals as goal

pub returns-in-Err-fill_store-clause-refused : goal.returns-in-Err-fill_store-clause-refused
returns-in-Err-fill_store-clause-refused g c =
    let at = c.taking.at in
    let before = c.args.before in
    let store = c.taking.store.items in
    let taken = take (at - before) (drop before store) in
    let invariant = c.taking.invariant in
    let size : length taken ≡ at - before = length_between before at store invariant.behind invariant.within in
    let after : at ≤ c.min-end.result = omega (arith, c.min-end.ensures, c.len.ensures, c.in-Ok.ensures.longer, c.taking-test.true) in
    let within : length taken + (c.min-end.result - at) ≤ c.args.wanted - before = omega (arith, size, after, c.min-end.ensures, invariant.behind) in
    stops_after (kind_of_frame_fault c.in-Err-fill_store.fault) _ _ _ taken _ _ invariant.taken invariant.still within c.in-Err-fill_store.ensures.refused

pub returns-in-Err-fill_store-clause-front : goal.returns-in-Err-fill_store-clause-front
returns-in-Err-fill_store-clause-front g c =
    let invariant = c.taking.invariant in
    let front : take c.taking.at c.taking.store.items ≡ take c.taking.at c.fill_store.new.store.items = sym c.in-Ok.ensures.kept ∙ sym c.in-Err-fill_store.ensures.front in
    sym (same_shorter_front c.args.before c.taking.at c.taking.store.items c.fill_store.new.store.items invariant.behind front) ∙ invariant.front

pub returns-in-Err-fill_store-clause-came : goal.returns-in-Err-fill_store-clause-came
returns-in-Err-fill_store-clause-came g c = λ had left had_is left_is.
    let at = c.taking.at in
    let before = c.args.before in
    let store = c.taking.store.items in
    let invariant = c.taking.invariant in
    let taken = take (at - before) (drop before store) in
    let size : length taken ≡ at - before = length_between before at store invariant.behind invariant.within in
    let came = came_then (kind_of_frame_fault c.in-Err-fill_store.fault) (g.S.Outside.state c.args.source.now) _ _ taken _ had left invariant.taken had_is left_is c.in-Err-fill_store.ensures.refused in
    let room = c.in-Ok.ensures in
    omega (arith, c.in-Err-fill_store.ensures.memory, room.came, invariant.came, invariant.behind, size, came)

pub returns-in-Err-clause-refused : goal.returns-in-Err-clause-refused
returns-in-Err-clause-refused g c =
    let at = c.taking.at in
    let before = c.args.before in
    let store = c.taking.store.items in
    let invariant = c.taking.invariant in
    let taken = take (at - before) (drop before store) in
    let size : length taken ≡ at - before = length_between before at store invariant.behind invariant.within in
    rw c.in-Err.ensures.refused (invariant.still, (taken, omega (arith, size, invariant.short, invariant.behind), invariant.taken))

pub returns-in-Err-clause-came : goal.returns-in-Err-clause-came
returns-in-Err-clause-came g c = λ had left had_is left_is.
    let at = c.taking.at in
    let before = c.args.before in
    let store = c.taking.store.items in
    let invariant = c.taking.invariant in
    let taken = take (at - before) (drop before store) in
    let size : length taken ≡ at - before = length_between before at store invariant.behind invariant.within in
    let came = came_before _ _ taken had left invariant.taken had_is left_is in
    omega (arith, c.in-Err.ensures.came, invariant.came, invariant.behind, size, came)

pub returns-clause-came : goal.returns-clause-came
returns-clause-came g c = λ had left had_is left_is.
    let at = c.taking.at in
    let before = c.args.before in
    let store = c.taking.store.items in
    let invariant = c.taking.invariant in
    let taken = take (at - before) (drop before store) in
    let size : length taken ≡ at - before = length_between before at store invariant.behind invariant.within in
    let came = came_before _ _ taken had left invariant.taken had_is left_is in
    omega (arith, invariant.came, invariant.behind, size, came)

pub returns-in-Err-clause-on : goal.returns-in-Err-clause-on
returns-in-Err-clause-on g c = c.taking.invariant.on

pub returns-in-Err-fill_store-clause-on : goal.returns-in-Err-fill_store-clause-on
returns-in-Err-fill_store-clause-on g c = reads_on _ _ _ c.taking.invariant.on c.in-Err-fill_store.ensures.on

pub returns-clause-on : goal.returns-clause-on
returns-clause-on g c = c.taking.invariant.on

pub taking-preserved : goal.taking-preserved
taking-preserved g c =
    let at = c.taking.at in
    let before = c.args.before in
    let end = c.min-end.result in
    let invariant = c.taking.invariant in
    let old = c.taking.store.items in
    let made = c.make_longer.new.store.items in
    let new = c.fill_store.new.store.items in
    let filled = c.in-Ok-fill_store.ensures in
    let room = c.in-Ok.ensures in
    let after : at ≤ end = omega (arith, c.min-end.ensures, c.len.ensures, room.longer, c.taking-test.true) in
    let front : take at old ≡ take at new = sym room.kept ∙ sym filled.front in
    let whole = next_part before at end old new invariant.behind after front in
    record {
      within = omega (arith, c.min-end.ensures, c.len.ensures, filled.size);
      short = omega (arith, c.min-end.ensures);
      behind = omega (arith, invariant.behind, after);
      front = sym (same_shorter_front before at old new invariant.behind front) ∙ invariant.front;
      taken = subst (Consumes _ _) whole (Consumes-trans _ _ _ _ _ invariant.taken filled.filled);
      size = omega (arith, filled.size, room.size, invariant.size);
      wanted = omega (arith, filled.memory, room.wanted, invariant.wanted);
      keeps = omega (arith, filled.memory, room.keeps, invariant.keeps);
      came = omega (arith, filled.memory, room.came, invariant.came, after);
      still = unstopped_on _ _ _ invariant.still filled.unstopped;
      on = reads_on _ _ _ invariant.on filled.on;
    }
