use Rattle.std.proofs.Common.{◌≡◌, ◌++◌, drop, option_map}
use Rattle.serde_json.specs.View.{items_view}
use Rattle.mongo_settings.specs.Kinds.{joined_hex}
use Rattle.mongo_login.proofs.object.joined_hex.Given as goal

abbrev pub invariant-loop-item : goal.invariant-loop-item
invariant-loop-item l = joined_hex (items_view l.items) ≡ option_map (λ more. l.joined.items ++ more) (joined_hex (items_view (drop l.item-index l.items)))
