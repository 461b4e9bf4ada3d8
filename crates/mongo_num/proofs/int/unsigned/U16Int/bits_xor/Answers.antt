use Rattle.std.proofs.Common.{arith}
use Rattle.std.specs.Int.Bits.{bit_xor, xor_lt}
use Rattle.mongo_num.proofs.BitLemmas.{unsigned_bits}
use Rattle.mongo_num.proofs.int.unsigned.U16Int.bits_xor.Goals as goal

pub returns : goal.returns
returns c = unsigned_bits 16 bit_xor xor_lt c.args.self c.args.other (omega arith) (omega arith)
