use Rattle.std.proofs.Common.{arith}
use Rattle.std.proofs.lemmas.Int.{ints}
use Rattle.mongo_num.proofs.ExactLemmas.{holds_equal}
use Rattle.mongo_num.proofs.checked.arithmetic.difference.Goals as goal

pub returns : goal.returns
returns g c =
    holds_equal _ _ _ _ _ _
    (omega (arith, ints, c.wide.ensures.value, c.wide-2.ensures.value)) c.of_i128.ensures
