use Rattle.std.proofs.Common.{◌≢◌}
use Rattle.std.specs.List.{AllAdjacentBelow}
use Rattle.mongo_bson.proofs.distinct.is_each_new.Given as goal

abbrev pub invariant-loop-i : goal.invariant-loop-i
invariant-loop-i l = AllAdjacentBelow (λ x y. x.now ≢ y.now) l.texts l.i
