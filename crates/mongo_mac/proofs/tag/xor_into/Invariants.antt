use Rattle.std.proofs.Common.{◌≡◌, take}
use Rattle.mongo_mac.specs.Bytes.{xor_bytes}
use Rattle.mongo_mac.proofs.tag.xor_into.Given as goal

abbrev pub invariant-loop-i : goal.invariant-loop-i
invariant-loop-i l = take l.i l.out ≡ xor_bytes (take l.i l.left) (take l.i l.right)
