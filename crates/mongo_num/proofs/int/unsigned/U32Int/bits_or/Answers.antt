use Rattle.std.proofs.Common.{arith}
use Rattle.std.specs.Int.Bits.{bit_or, or_lt}
use Rattle.mongo_num.proofs.BitLemmas.{unsigned_bits}
use Rattle.mongo_num.proofs.int.unsigned.U32Int.bits_or.Goals as goal

pub returns : goal.returns
returns c = unsigned_bits 32 bit_or or_lt c.args.self c.args.other (omega arith) (omega arith)
