use Rattle.std.proofs.Common.{◌≡◌, length, take, vec_capacity}
use Rattle.mongo_bson.proofs.items.Items.try_clone.Given as goal

abbrev pub invariant-loop-item : goal.invariant-loop-item
invariant-loop-item g l = record {
  copied : l.copies.items ≡ take l.item-index l.item-items;
  memory : vec_capacity l.copies ≡ length l.item-items;
}
