use Rattle.std.proofs.Common.{rules}
use Rattle.mongo_num.proofs.ExactLemmas.{no_quotient, quotient_holds}
use Rattle.mongo_num.proofs.checked.division.quotient.Goals as goal

pub returns-in-Some : goal.returns-in-Some
returns-in-Some g c =
    rw (← c.wide.ensures.value, ← c.wide-2.ensures.value) (
    quotient_holds _ _ _ c.wide.result c.wide-2.result c.in-Some.n _ c.wide.ensures.narrow c.wide-2.ensures.narrow
    (search rules) c.in-Some.ensures c.of_i128.ensures)

pub returns-in-None : goal.returns-in-None
returns-in-None g c =
    rw (← c.wide.ensures.value, ← c.wide-2.ensures.value) (
    no_quotient _ _ _ c.wide.result c.wide-2.result _ c.wide.ensures.narrow c.wide-2.ensures.narrow
    g.met.T.Int.narrow c.in-None.ensures)
