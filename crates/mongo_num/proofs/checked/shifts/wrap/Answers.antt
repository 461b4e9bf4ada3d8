use Rattle.std.proofs.Common.{◌∙◌, sym, arith, rules}
use Rattle.std.proofs.lemmas.Int.{ints}
use Rattle.std.proofs.lemmas.Nat.{pow_pos}
use Rattle.mongo_num.proofs.ExactLemmas.{wrapped_holds, wrapped_down_holds}
use Rattle.mongo_num.proofs.checked.shifts.wrap.Goals as goal

pub rem_euclid-low_bits-requires-clause-nonzero : goal.rem_euclid-low_bits-requires-clause-nonzero
rem_euclid-low_bits-requires-clause-nonzero g c =
    omega (arith, ints, c.count.ensures.value, c.count.ensures.narrow, pow_pos g.T.Int.WIDTH)

pub rem_euclid-low_bits-requires-clause-no_overflow : goal.rem_euclid-low_bits-requires-clause-no_overflow
rem_euclid-low_bits-requires-clause-no_overflow g c =
    omega (arith, ints, c.count.ensures.value, c.count.ensures.narrow)

pub overflow_sub-low_bits : goal.overflow_sub-low_bits
overflow_sub-low_bits g c =
    omega (
      arith,
      ints,
      c.rem_euclid-low_bits.ensures.lower_bound,
      c.count-else-low_bits-greatest.ensures.value,
      c.count-else-low_bits-greatest.ensures.narrow,
    )

pub returns-then-low_bits-greatest-clause-there : goal.returns-then-low_bits-greatest-clause-there
returns-then-low_bits-greatest-clause-there g c = grind (arith, ints, g.met.T.Int.least_is_at_most_zero)

pub returns-then-low_bits-greatest-clause-value : goal.returns-then-low_bits-greatest-clause-value
returns-then-low_bits-greatest-clause-value g c =
    wrapped_holds _ _ c.args.n c.count.result c.rem_euclid-low_bits.result c.greatest.result _ _ c.ranges.n
    (search rules) (search rules) c.greatest.ensures.narrow c.count.ensures.value c.greatest.ensures.value
    c.rem_euclid-low_bits.ensures.value c.if-low_bits-greatest.true c.of_i128.ensures.value

pub returns-else-low_bits-greatest-clause-there : goal.returns-else-low_bits-greatest-clause-there
returns-else-low_bits-greatest-clause-there g c = grind (arith, ints)

pub returns-else-low_bits-greatest-clause-value : goal.returns-else-low_bits-greatest-clause-value
returns-else-low_bits-greatest-clause-value g c =
    let same = c.count.ensures.value ∙ sym c.count-else-low_bits-greatest.ensures.value in
    wrapped_down_holds _ _ c.args.n c.count.result c.rem_euclid-low_bits.result c.greatest.result _ _ c.ranges.n
    (search rules) (search rules) c.greatest.ensures.narrow c.count.ensures.value c.greatest.ensures.value
    c.count.ensures.narrow c.rem_euclid-low_bits.ensures.lower_bound c.rem_euclid-low_bits.ensures.value
    c.if-low_bits-greatest.false (rw same c.of_i128-else-low_bits-greatest.ensures.value)
