use Rattle.std.proofs.Common.{rules}
use Rattle.mongo_num.proofs.ExactLemmas.{product_holds, no_product}
use Rattle.mongo_num.proofs.checked.arithmetic.product.Goals as goal

pub returns-in-Some : goal.returns-in-Some
returns-in-Some g c =
    rw (← c.wide.ensures.value, ← c.wide-2.ensures.value) (
    product_holds _ _ _ c.wide.result c.wide-2.result c.in-Some.n _ c.wide.ensures.narrow c.wide-2.ensures.narrow
    (search rules) c.in-Some.ensures.1 c.of_i128.ensures)

pub returns-in-None : goal.returns-in-None
returns-in-None g c =
    rw (← c.wide.ensures.value, ← c.wide-2.ensures.value) (
    no_product _ _ _ c.wide.result c.wide-2.result c.wide.ensures.narrow c.wide-2.ensures.narrow g.met.T.Int.narrow
    c.in-None.ensures)
