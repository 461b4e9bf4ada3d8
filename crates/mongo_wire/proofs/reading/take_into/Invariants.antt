use Rattle.std.proofs.Common.{◌≡◌, length, take, drop, max, vec_capacity, ◌+◌, ◌*◌, ◌-◌, ◌≤◌}
use Rattle.std.specs.Io.KnownBytes.{Consumes}
use Rattle.mongo_wire.specs.Buffer.{piece_length}
use Rattle.mongo_wire.specs.Outside.{ReadsOn, Unstopped}
use Rattle.mongo_wire.proofs.reading.take_into.Given as goal

-- behind what came before stands what the source gave so far
abbrev pub invariant-taking : goal.invariant-taking
invariant-taking g l =
    let state = g.S.Outside.state in
    record {
      within : l.at ≤ length l.store.items;
      short : l.at ≤ l.wanted;
      behind : l.before ≤ l.at;
      front : take l.before l.store.items ≡ take l.before l.fn.store.items;
      taken : Consumes (state l.fn.source).left (state l.source).left (take (l.at - l.before) (drop l.before l.store.items));
      size : length l.store.items ≤ max (length l.fn.store.items) l.wanted;
      wanted : vec_capacity l.store ≤ max (vec_capacity l.fn.store) l.wanted;
      keeps : vec_capacity l.fn.store ≤ vec_capacity l.store;
      came : vec_capacity l.store ≤ max (vec_capacity l.fn.store) (piece_length + 2 * l.at);
      still : Unstopped (state l.fn.source) (state l.source);
      on : ReadsOn (state l.fn.source) (state l.source);
    }

abbrev pub decreases-taking : goal.decreases-taking
decreases-taking g l = l.wanted - l.at
