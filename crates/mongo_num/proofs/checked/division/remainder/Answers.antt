use Rattle.std.proofs.Common.{refl, rules, true}
use Rattle.mongo_num.proofs.ExactLemmas.{can_divide, remainder_holds, remainder_within}
use Rattle.mongo_num.proofs.checked.division.remainder.Goals as goal

pub returns-in_err-quotient : goal.returns-in_err-quotient
returns-in_err-quotient g c = search rules

pub unreachable-requires : goal.unreachable-requires
unreachable-requires g c =
    c.in-None.ensures (can_divide _ _ c.wide.result c.wide-2.result c.wide.ensures.narrow c.wide-2.ensures.narrow g.met.T.Int.narrow
    (rw (c.wide.ensures.value, c.wide-2.ensures.value) (c.in_ok-quotient.ensures.there.0 (refl {a = true}))))

pub returns : goal.returns
returns g c =
    let int = g.met.T.Int in
    rw (← c.wide.ensures.value, ← c.wide-2.ensures.value) (
    remainder_holds _ _ _ c.wide.result c.wide-2.result c.in-Some.n _ c.wide.ensures.narrow c.wide-2.ensures.narrow
    (search rules) c.in-Some.ensures.1 c.of_i128.ensures
    (rw (c.wide.ensures.value, c.wide-2.ensures.value) (c.in_ok-quotient.ensures.there.0 (refl {a = true})))
    (remainder_within _ _ _ _ int.least_is_at_most_zero int.greatest_is_at_least_zero c.wide.ensures.within)
    )
