-- An array of another number of values than two.
use Rattle.std.proofs.Common.{◌≡◌, ◌<◌, ◌≤◌, None, List, [], ◌∷◌, length, refl, arith}
use Rattle.serde_json.specs.View.{items_view}
use Rattle.serde_json.specs.declared.value.Value.{Value}
use Rattle.mongo_settings.specs.Kinds.{two_of}

pub two_of-few : (items : List Value) → length items < 2 → two_of (items_view items) ≡ None
two_of-few [] few = refl
two_of-few (one ∷ []) few = refl
two_of-few (one ∷ two ∷ others) few = absurd (omega (arith, few))

pub two_of-many : (items : List Value) → 3 ≤ length items → two_of (items_view items) ≡ None
two_of-many [] many = absurd (omega (arith, many))
two_of-many (one ∷ []) many = absurd (omega (arith, many))
two_of-many (one ∷ two ∷ []) many = absurd (omega (arith, many))
two_of-many (one ∷ two ∷ three ∷ others) many = refl
