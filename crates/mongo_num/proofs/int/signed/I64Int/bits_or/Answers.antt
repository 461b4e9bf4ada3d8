use Rattle.std.specs.Int.{w64}
use Rattle.std.specs.Int.Bits.{bit_or, or_lt}
use Rattle.mongo_num.proofs.BitLemmas.{signed_bits}
use Rattle.mongo_num.proofs.int.signed.I64Int.bits_or.Goals as goal

pub returns : goal.returns
returns c = signed_bits w64 bit_or or_lt c.args.self c.args.other c.ranges.self c.ranges.other
