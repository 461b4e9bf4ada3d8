use Rattle.std.proofs.Common.{◌≡◌, ◌+◌, ◌-◌, ◌≤◌, ◌^◌, arith}
use Rattle.mongo_num.proofs.RatioLemmas.{alike_down, alike_up, cut_up_below}
use Rattle.mongo_num.specs.DoubleBits.{scale_of, significand_of}
use Rattle.mongo_num.proofs.double.magnitude_ratio.Goals as goal

pub returns-then-scale-lt-SCALE_OF_ONES-clause-alike :
    goal.returns-then-scale-lt-SCALE_OF_ONES-clause-alike
returns-then-scale-lt-SCALE_OF_ONES-clause-alike c =
    let m = c.significand-significand.ensures in
    let scale = c.scale-scale.ensures.value in
    let gap : c.scale-scale.result + (1075 - c.scale-scale.result) ≡ 1075 = omega arith in
    rw (c.from.ensures, c.two_to.ensures, c.min.ensures, m.value, scale)
    (alike_down (significand_of c.args.bits) (scale_of c.args.bits) (1075 - scale_of c.args.bits) 1075
    (rw m.value at m.below) (rw scale at gap))

pub returns-else-scale-lt-SCALE_OF_ONES-clause-alike :
    goal.returns-else-scale-lt-SCALE_OF_ONES-clause-alike
returns-else-scale-lt-SCALE_OF_ONES-clause-alike c =
    let m = c.significand-significand.ensures in
    let scale = c.scale-scale.ensures.value in
    let leading : 2 ^ 52 ≤ c.significand-significand.result = m.leading_one (omega (arith, scale)) in
    let gap : c.scale-scale.result ≡ 1075 + (c.scale-scale.result - 1075) = omega arith in
    rw (
      c.from-else-scale-lt-SCALE_OF_ONES.ensures,
      c.two_to-else-scale-lt-SCALE_OF_ONES.ensures,
      c.min-else-scale-lt-SCALE_OF_ONES.ensures,
      m.value,
      scale,
    ) (alike_up (significand_of c.args.bits) (scale_of c.args.bits) (scale_of c.args.bits - 1075) 1075
    (rw m.value at leading) (rw scale at gap))

pub returns-else-scale-lt-SCALE_OF_ONES-clause-units :
    goal.returns-else-scale-lt-SCALE_OF_ONES-clause-units
returns-else-scale-lt-SCALE_OF_ONES-clause-units c =
    rw (
      c.from-else-scale-lt-SCALE_OF_ONES.ensures,
      c.two_to-else-scale-lt-SCALE_OF_ONES.ensures,
      c.min-else-scale-lt-SCALE_OF_ONES.ensures,
    ) (cut_up_below c.significand-significand.result (c.scale-scale.result - 1075) c.significand-significand.ensures.below)
