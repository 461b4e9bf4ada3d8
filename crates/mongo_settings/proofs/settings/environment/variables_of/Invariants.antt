use Rattle.std.proofs.Common.{◌≡◌, ◌++◌, drop, option_map}
use Rattle.serde_json.specs.View.{items_view}
use Rattle.mongo_settings.specs.Options.{variables_of}
use Rattle.mongo_settings.proofs.settings.environment.variables_of.Given as goal

-- the variables so far and those of the items that are left are all
abbrev pub invariant-loop-item : goal.invariant-loop-item
invariant-loop-item l = variables_of (items_view l.items) ≡ option_map (λ more. l.variables ++ more) (variables_of (items_view (drop l.item-index l.items)))
