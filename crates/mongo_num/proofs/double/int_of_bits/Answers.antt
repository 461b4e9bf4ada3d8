use Rattle.std.proofs.Common.{rules}
use Rattle.mongo_num.proofs.double.int_of_bits.Goals as goal

pub returns-then-n : goal.returns-then-n
returns-then-n c = search rules
