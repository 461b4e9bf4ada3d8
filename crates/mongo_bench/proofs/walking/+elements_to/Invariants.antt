use Rattle.std.proofs.Common.{◌<◌}
use Rattle.mongo_bench.proofs.walking.+elements_to.Given as goal

abbrev pub decreases-elements_to : goal.decreases-elements_to
decreases-elements_to l = l.levels

abbrev pub invariant-loop-item : goal.invariant-loop-item
invariant-loop-item l =
    (goal.iterator-loop-item).can_next l.item-iterator ×
    (goal.iterator-loop-item).is_finite l.item-iterator × (0 < l.levels)
