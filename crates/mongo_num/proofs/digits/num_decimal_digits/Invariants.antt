use Rattle.std.proofs.Common.{◌≡◌, ◌+◌, length}
use Rattle.std.specs.Prelude.{decimal}
use Rattle.mongo_num.proofs.digits.num_decimal_digits.Given as goal

-- each round takes the last digit off
abbrev pub invariant-loop-rest : goal.invariant-loop-rest
invariant-loop-rest l = l.digits + length (decimal l.rest) ≡ length (decimal l.n) + 1

abbrev pub decreases-loop-rest : goal.decreases-loop-rest
decreases-loop-rest l = l.rest
