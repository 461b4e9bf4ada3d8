use Rattle.std.proofs.Common.{refl, arith}
use Rattle.std.proofs.lemmas.Grind.{common_steps}
use Rattle.mongo_mac.specs.Bytes.{xor_bytes}
use Rattle.mongo_mac.proofs.XorBytes.{xor_bytes_more}
use Rattle.mongo_mac.proofs.tag.xor_into.Goals as goal

pub loop-i-init : goal.loop-i-init
unfolding xor_bytes
loop-i-init c = refl

pub loop-i-preserved : goal.loop-i-preserved
loop-i-preserved c = grind (arith, common_steps, xor_bytes_more)
