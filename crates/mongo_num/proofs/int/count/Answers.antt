use Rattle.std.proofs.Common.{◌∙◌, refl}
use Rattle.mongo_num.proofs.ExactLemmas.{passed_narrow, passed_is, difference_fits, next_fits, next_most, next_is}
use Rattle.mongo_num.proofs.int.count.Goals as goal

pub overflow_sub-result : goal.overflow_sub-result
overflow_sub-result g c =
    let a = c.greatest.ensures.narrow in
    let b = c.least.ensures.narrow in
    rw (passed_narrow _ a, passed_narrow _ b) (difference_fits _ _ a b)

pub overflow_add-result : goal.overflow_add-result
overflow_add-result g c =
    let a = c.greatest.ensures.narrow in
    let b = c.least.ensures.narrow in
    rw (passed_narrow _ a, passed_narrow _ b, passed_is _ (difference_fits _ _ a b)) (next_fits _ _ a b)

pub returns-clause-value : goal.returns-clause-value
returns-clause-value g c =
    next_is _ _ c.greatest.ensures.narrow c.least.ensures.narrow
    ∙ rw (c.greatest.ensures.value, c.least.ensures.value) g.met.T.Int.numbers_are_patterns

pub returns-clause-ends : goal.returns-clause-ends
returns-clause-ends g c =
    next_is _ _ c.greatest.ensures.narrow c.least.ensures.narrow
    ∙ rw (c.greatest.ensures.value, c.least.ensures.value) refl

pub returns-clause-narrow : goal.returns-clause-narrow
returns-clause-narrow g c =
    let a = c.greatest.ensures.narrow in
    let b = c.least.ensures.narrow in
    rw (next_is _ _ a b) (next_most _ _ a b)
