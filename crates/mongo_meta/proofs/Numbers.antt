-- Texts that parse as an int32, by the test of `specs/Variables.antt`.
use Rattle.std.proofs.Common.{◌≡◌, ℕ, ℤ, pos, negsuc, ◌^◌, ◌<◌, ◌&&◌, Bool, true, false, cond, None, Some, Result, Ok, Err, List, [], ◌∷◌, length, nat_lt, refl, sym, ap, ◌∙◌, arith, w32}
use Rattle.std.specs.List.{list_all}
use Rattle.std.specs.Char.{digit_value}
use Rattle.std.specs.Result.{result_ok}
use Rattle.std.specs.Prelude.{FitsSigned}
use Rattle.std.specs.Str.Parse.{AllDigits, IsNumeral, ParsesSigned, without_leading_sign, signed_digits_value}
use Rattle.std.proofs.lemmas.Bool.Decides.{nat_tests}
use Rattle.std.proofs.lemmas.Bool.{ltb-true}
use Rattle.std.proofs.lemmas.Int.{ints}
use Rattle.mongo_meta.specs.Variables.{is_numeral, is_int32, number_in}

below : (a b : ℕ) → a < b → nat_lt a b ≡ true
below a b less = grind (arith, nat_tests)

both_are_true : (a b : Bool) → a ≡ true → b ≡ true → (a && b) ≡ true
both_are_true a b p q = ap (λ x. x && b) p ∙ q

parts : (a b : Bool) → (a && b) ≡ true → (a ≡ true) × (b ≡ true)
parts true b is = (refl, is)
parts false b is = cc

digits_pass : (ds : List ℕ) → AllDigits 10 ds → list_all (λ c. nat_lt (digit_value c) 10) ds ≡ true
digits_pass [] all = refl
digits_pass (d ∷ ds) all = both_are_true _ _ (below (digit_value d) 10 all.0) (digits_pass ds all.1)

pass_digits : (ds : List ℕ) → list_all (λ c. nat_lt (digit_value c) 10) ds ≡ true → AllDigits 10 ds
pass_digits [] all = tt
pass_digits (d ∷ ds) all = let two = parts (nat_lt (digit_value d) 10) (list_all (λ c. nat_lt (digit_value c) 10) ds) all in (ltb-true (digit_value d) 10 two.0, pass_digits ds two.1)

numeral_passes : (ds : List ℕ) → IsNumeral 10 ds → is_numeral ds ≡ true
numeral_passes ds is = both_are_true _ _ (below 0 (length ds) is.0) (digits_pass ds is.1)

passes_numeral : (ds : List ℕ) → is_numeral ds ≡ true → IsNumeral 10 ds
passes_numeral ds is = let two = parts (nat_lt 0 (length ds)) (list_all (λ c. nat_lt (digit_value c) 10) ds) is in (ltb-true 0 (length ds) two.0, pass_digits ds two.1)

fits_passes : (z : ℤ) → FitsSigned w32 z → is_int32 z ≡ true
fits_passes (pos n) fits = below n (2 ^ 31) (omega (arith, ints, fits))
fits_passes (negsuc n) fits = below n (2 ^ 31) (omega (arith, ints, fits))

passes_fits : (z : ℤ) → is_int32 z ≡ true → FitsSigned w32 z
passes_fits (pos n) is = let less : n < 2 ^ 31 = ltb-true n (2 ^ 31) is in search (arith, ints)
passes_fits (negsuc n) is = let less : n < 2 ^ 31 = ltb-true n (2 ^ 31) is in search (arith, ints)

none_unless_true : (test : Bool) (z : ℤ) → (test ≡ true → ⊥) → None ≡ cond test (Some z) None
none_unless_true true z not = absurd (not refl)
none_unless_true false z not = refl

-- what `parse` reads is the number of a text
pub number_read : {E : Type 0} (text : List ℕ) (r : Result ℤ E) → ParsesSigned w32 10 text r → result_ok r ≡ number_in text
number_read text (Ok z) reads =
    let passes : (is_numeral (without_leading_sign text) && is_int32 (signed_digits_value 10 text)) ≡ true = both_are_true _ _ (numeral_passes (without_leading_sign text) reads.0.0) (fits_passes (signed_digits_value 10 text) reads.0.1) in
    ap Some reads.1 ∙ ap (λ b. cond b (Some (signed_digits_value 10 text)) None) (sym passes)
number_read text (Err e) reads =
    none_unless_true (is_numeral (without_leading_sign text) && is_int32 (signed_digits_value 10 text)) (signed_digits_value 10 text)
    (λ passes. let two = parts (is_numeral (without_leading_sign text)) (is_int32 (signed_digits_value 10 text)) passes in reads (passes_numeral (without_leading_sign text) two.0, passes_fits (signed_digits_value 10 text) two.1))
