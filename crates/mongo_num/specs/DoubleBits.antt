-- Whole numbers read from the 64 bits of a double: a sign, 11 bits of exponent and 52 of fraction (binary64
-- of IEEE 754-2019, section 3.4). A finite double is plus or minus m * 2 ^ k / 2 ^ 1075 for whole numbers m
-- and k, so that only whole numbers are spoken of here.
use Rattle.std.specs.Prelude.{Option, None, Some, Bool, ℕ, ◌+◌, ◌-◌, ◌*◌, ◌/◌, ◌%◌, ◌^◌, min, nat_le, ◌==◌, ◌&&◌, not, if◌then◌else◌, ℤ, pos, neg_ℤ, option_and_then, ◌≡◌, option_map}

abbrev pub is_negative : ℕ → Bool
is_negative bits = nat_le (2 ^ 63) bits

abbrev pub exponent_of : ℕ → ℕ
exponent_of bits = bits / 2 ^ 52 % 2 ^ 11

abbrev pub fraction_of : ℕ → ℕ
fraction_of bits = bits % 2 ^ 52

-- the exponent of all ones is that of the infinities, with the fraction 0, and of what is not a number
abbrev pub is_finite : ℕ → Bool
is_finite bits = not (exponent_of bits == 2 ^ 11 - 1)

abbrev pub is_not_a_number : ℕ → Bool
is_not_a_number bits = not (is_finite bits) && not (fraction_of bits == 0)

-- m: the fraction below a leading 1, which subnormal numbers lack
abbrev pub significand_of : ℕ → ℕ
significand_of bits = if exponent_of bits == 0 then fraction_of bits else (2 ^ 52 + fraction_of bits)

-- k: the exponent, where that of the subnormal numbers is the least of the others
abbrev pub scale_of : ℕ → ℕ
scale_of bits = if exponent_of bits == 0 then 1 else exponent_of bits

-- how often 1 / 2 ^ 1075 goes into the magnitude of a finite double
abbrev pub units_of : ℕ → ℕ
units_of bits = significand_of bits * 2 ^ scale_of bits

abbrev pub units_of_one : ℕ
units_of_one = 2 ^ 1075

-- the whole number that m / d stands for: itself where it is one, 0 up to 2 ^ -52, and 1 at 1 + 2 ^ -52,
-- the double after 1. So a double is read as what is left of it when a fraction of at most 2 ^ -52, the
-- distance from 1 to the next, is cut off.
abbrev pub whole_of : ℕ → ℕ → Option ℕ
whole_of m d =
    if nat_le (m * 2 ^ 52) d then Some 0
    else if m * 2 ^ 52 == d * (2 ^ 52 + 1) then Some 1
    else if m % d == 0 then Some (m / d)
    else None

-- the whole number that the magnitude of a double stands for
abbrev pub magnitude_of : ℕ → Option ℕ
magnitude_of bits = if is_finite bits then whole_of (units_of bits) units_of_one else None

-- a magnitude with its sign as an `i64`: 2 ^ 63, which follows the greatest one, is read as the greatest
abbrev pub int_from : Bool → ℕ → Option ℤ
int_from negative n =
    if negative then (if nat_le n (2 ^ 63) then Some (neg_ℤ (pos n)) else None)
    else (if nat_le n (2 ^ 63) then Some (pos (min n (2 ^ 63 - 1))) else None)

abbrev pub int_of : ℕ → Option ℤ
int_of bits = option_and_then (int_from (is_negative bits)) (magnitude_of bits)

-- the same as a `u64`
abbrev pub u64_from : Bool → ℕ → Option ℕ
u64_from negative n =
    if negative then (if n == 0 then Some 0 else None)
    else (if nat_le n (2 ^ 64) then Some (min n (2 ^ 64 - 1)) else None)

abbrev pub u64_of : ℕ → Option ℕ
u64_of bits = option_and_then (u64_from (is_negative bits)) (magnitude_of bits)

-- the double cut towards 0, and then the nearest number from 0 to `greatest`; 0 for what is not a number
abbrev pub round_clamped : ℕ → ℕ → ℕ
round_clamped greatest bits =
    if is_negative bits then 0
    else if is_not_a_number bits then 0
    else if is_finite bits then min (units_of bits / units_of_one) greatest
    else greatest

-- ---- fractions that are read alike

-- m / d and n / e are near the same whole number, and have the same whole part, as far as 2 ^ 65
pub record ReadAlike (m d n e : ℕ) : Type 0 where
  pub whole : option_map (min (2 ^ 65)) (whole_of m d) ≡ option_map (min (2 ^ 65)) (whole_of n e)
  pub part : min (2 ^ 65) (m / d) ≡ min (2 ^ 65) (n / e)
