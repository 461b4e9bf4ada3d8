-- A text that begins above the digit 0 is read as the number that it writes.
use Rattle.std.proofs.Common.{◌≡◌, ◌≢◌, ◌≤◌, ◌<◌, ℕ, zero, suc, List, [], ◌∷◌, get_or, ap, sym, ◌∙◌, arith}
use Rattle.std.specs.Prelude.{Result, Ok, Err, MatchOption}
use Rattle.std.specs.Result.{result_ok}
use Rattle.std.specs.Fmt.{decimal}
use Rattle.std.specs.Str.Parse.{ParsesUnsigned, AllDigits, digits_value}
use Rattle.std.proofs.lemmas.Fmt.{decimal-digits_value, decimal_digit, parse-decimal, first_decimal}
use Rattle.std.proofs.lemmas.Str.Parse.{IsNumeralModel, numerals_by_value, tells_digits, parse_plain}
use Rattle.mongo_bench.specs.Task.{IsTaskCount}

-- a count begins above the digit 0
pub above_zero : (text : List ℕ) (count : ℕ) → IsTaskCount text count → 48 < get_or text 0 0
above_zero text count is = rw is.2 (first_decimal count (omega (arith, is.0)) (omega (arith, is.1)))

positive : (text : List ℕ) (n : ℕ) → 48 < get_or text 0 0 → text ≡ decimal n → 1 ≤ n
positive text zero first same =
    let zero_text : text ≡ 48 ∷ [] = same ∙ decimal_digit 0 (omega arith) in
    let begins : get_or text 0 0 ≡ 48 = ap (λ t. get_or t 0 0) zero_text in
    absurd (omega arith)
positive text (suc n) first same = omega arith

own : IsNumeralModel (AllDigits 10) (digits_value 10)
own = numerals_by_value (AllDigits 10) tells_digits

pub count_read : {E : Type 0} (text : List ℕ) → 48 < get_or text 0 0 →
    (r : Result ℕ E) → ParsesUnsigned 32 10 text r →
    MatchOption (result_ok r) ((count : ℕ) → ¬ (IsTaskCount text count)) (IsTaskCount text)
count_read {E} text first (Ok n) parses =
    let no_plus : get_or text 0 0 ≢ 43 = omega arith in
    let plain = parse_plain own {E = E} 32 text (Ok n) parses no_plus in
    let written : decimal (digits_value 10 text) ≡ text =
    decimal-digits_value own text plain.0.0 plain.0.1 (λ zero_first. absurd (omega arith))
    (omega (arith, plain.0.2)) in
    let same : text ≡ decimal n = sym written ∙ ap decimal (sym plain.1) in
    (positive text n first same, omega (arith, plain.0.2, plain.1), same)
count_read {E} text first (Err e) parses = λ count is.
    let found = parse-decimal 32 count text (Err e) is.1 (omega (arith, is.1)) is.2 parses in cc
