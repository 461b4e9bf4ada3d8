use Rattle.std.proofs.Common.{◌≡◌, drop}
use Rattle.serde_json.specs.View.{items_view}
use Rattle.mongo_settings.specs.Properties.{item_elements}
use Rattle.mongo_settings.proofs.Grown.{Grows}
use Rattle.mongo_settings.proofs.settings.properties.array_of.Given as goal

abbrev pub invariant-loop-item : goal.invariant-loop-item
invariant-loop-item l = record {
  counted : l.array.count ≡ l.item-index;
  grows : Grows l.array.document (item_elements 0 (items_view l.items)) (item_elements l.item-index (items_view (drop l.item-index l.items)));
}
