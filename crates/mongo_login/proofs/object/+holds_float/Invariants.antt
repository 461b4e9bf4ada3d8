use Rattle.std.proofs.Common.{◌≡◌, drop}
use Rattle.serde_json.specs.View.{view, items_view, members_view}
use Rattle.serde_json.specs.Written.{has_float, items_have_float, members_have_float}
use Rattle.mongo_login.proofs.object.+holds_float.Given as goal

abbrev pub invariant-loop-item : goal.invariant-loop-item
invariant-loop-item l = items_have_float (items_view (drop l.item-index l.item-items)) ≡ has_float (view l.value)

abbrev pub invariant-loop-key : goal.invariant-loop-key
invariant-loop-key l = members_have_float (members_view l._key-iterator) ≡ has_float (view l.value)

abbrev pub decreases-holds_float : goal.decreases-holds_float
decreases-holds_float l = goal.size-holds_float l
