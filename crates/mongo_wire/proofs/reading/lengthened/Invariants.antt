use Rattle.std.proofs.Common.{◌≡◌, length, take, max, vec_capacity, ◌-◌, ◌≤◌}
use Rattle.mongo_wire.proofs.reading.lengthened.Given as goal

-- what was there stands in front, in the same memory
abbrev pub invariant-lengthening : goal.invariant-lengthening
invariant-lengthening l = record {
  kept : take (length l.fn.store.items) l.store.items ≡ l.fn.store.items;
  longer : length l.fn.store.items ≤ length l.store.items;
  size : length l.store.items ≤ max (length l.fn.store.items) l.wanted;
  memory : vec_capacity l.store ≡ vec_capacity l.fn.store;
}

abbrev pub decreases-lengthening : goal.decreases-lengthening
decreases-lengthening l = l.wanted - length l.store.items
