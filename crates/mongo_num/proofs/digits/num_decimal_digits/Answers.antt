use Rattle.std.proofs.Common.{◌≡◌, ◌∙◌, ◌+◌, ◌/◌, length, ap, arith, lit<, length-append}
use Rattle.std.specs.Prelude.{decimal}
use Rattle.std.proofs.lemmas.Fmt.{decimal_digit, decimal_step, length-decimal-le}
use Rattle.mongo_num.proofs.digits.num_decimal_digits.Goals as goal

pub overflow_add-digits : goal.overflow_add-digits
overflow_add-digits c =
    omega (arith, c.loop-rest.invariant, length-decimal-le 20 c.args.n (lit< tt) (omega arith) (omega arith))

pub loop-rest-preserved : goal.loop-rest-preserved
loop-rest-preserved c =
    let step : length (decimal c.loop-rest.rest) ≡ length (decimal (c.loop-rest.rest / 10)) + 1 =
    ap length (decimal_step c.loop-rest.rest (omega arith) (omega arith))
    ∙ length-append (decimal (c.loop-rest.rest / 10)) _ in
    omega (arith, c.loop-rest.invariant, step)

pub returns : goal.returns
returns c =
    let one : length (decimal c.loop-rest.rest) ≡ 1 = ap length (decimal_digit c.loop-rest.rest (omega arith)) in
    omega (arith, c.loop-rest.invariant, one)
