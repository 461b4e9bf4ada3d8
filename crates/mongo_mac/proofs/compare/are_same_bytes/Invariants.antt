use Rattle.std.proofs.Common.{◌≡◌, ◌↔◌, take}
use Rattle.mongo_mac.proofs.compare.are_same_bytes.Given as goal

abbrev pub invariant-loop-i : goal.invariant-loop-i
invariant-loop-i l = (l.difference ≡ 0) ↔ (take l.i l.left ≡ take l.i l.right)
