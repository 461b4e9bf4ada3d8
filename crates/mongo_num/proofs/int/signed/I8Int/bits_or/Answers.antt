use Rattle.std.specs.Int.{w8}
use Rattle.std.specs.Int.Bits.{bit_or, or_lt}
use Rattle.mongo_num.proofs.BitLemmas.{signed_bits}
use Rattle.mongo_num.proofs.int.signed.I8Int.bits_or.Goals as goal

pub returns : goal.returns
returns c = signed_bits w8 bit_or or_lt c.args.self c.args.other c.ranges.self c.ranges.other
