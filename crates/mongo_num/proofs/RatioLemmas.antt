-- Fractions that are read alike.
use Rattle.std.proofs.Common.{◌≡◌, ◌∙◌, ℕ, Some, ◌+◌, ◌-◌, ◌*◌, ◌/◌, ◌%◌, ◌^◌, ◌<◌, ◌≤◌, min, option_map, nat_le, ◌==◌, refl, sym, ap, arith, subst, inl, inr, lit<}
use Rattle.std.proofs.lemmas.Bool.Decides.{nat_tests, leb_tells, same_from_decides, Decides-like, Decides-eqb}
use Rattle.std.proofs.Math.Nat.{mul-div-mul_right, mod-eq-sub-mul-div, div-add-mod, le_of_mul-le-mul_right, eq_of_mul-eq-mul_right, mul-le-mul_right, mul-le-mul_left, div-eq_of_lt, div-one, mod-one}
use Rattle.std.proofs.lemmas.Nat.{pow-add, pow_pos}
use Rattle.std.proofs.Math.Pow.{pow_mono}
use Rattle.std.specs.Bool.{Decides}
use Rattle.mongo_num.specs.DoubleBits.{whole_of, ReadAlike}

-- ---- a common factor changes nothing

Decides-le : (a b : ℕ) → Decides (nat_le a b) (a ≤ b)
Decides-le a b = (λ e. grind (arith, nat_tests), λ h. grind (arith, nat_tests))

le_scaled : (a b c : ℕ) → 0 < c → nat_le (a * c) (b * c) ≡ nat_le a b
le_scaled a b c pos =
    same_from_decides (nat_le (a * c) (b * c)) (nat_le a b)
    (Decides-like (nat_le (a * c) (b * c)) (λ h. le_of_mul-le-mul_right h pos) (λ h. mul-le-mul_right c h)
    (Decides-le (a * c) (b * c)))
    (Decides-le a b)

eq_scaled : (a b c : ℕ) → 0 < c → (a * c == b * c) ≡ (a == b)
eq_scaled a b c pos =
    same_from_decides (a * c == b * c) (a == b)
    (Decides-like (a * c == b * c) (λ h. eq_of_mul-eq-mul_right c pos a b h) (λ h. ap (λ (n : ℕ). n * c) h)
    (Decides-eqb (a * c) (b * c)))
    (Decides-eqb a b)

mod-scaled : (m d c : ℕ) → 0 < c → m * c % (d * c) ≡ m % d * c
mod-scaled m d c pos =
    let whole : (d * (m / d) + m % d) * c ≡ m * c = ap (λ (n : ℕ). n * c) (div-add-mod m d) in
    mod-eq-sub-mul-div (m * c) (d * c) ∙ ap (λ (n : ℕ). m * c - d * c * n) (mul-div-mul_right m d pos)
    ∙ omega (arith, whole)

even_scaled : (m d c : ℕ) → 0 < c → (m * c % (d * c) == 0) ≡ (m % d == 0)
even_scaled m d c pos =
    let zero : 0 * c ≡ 0 = omega arith in
    rw (mod-scaled m d c pos) (rw zero at (eq_scaled (m % d) 0 c pos))

whole_scaled : (m d c : ℕ) → 0 < c → whole_of (m * c) (d * c) ≡ whole_of m d
whole_scaled m d c pos =
    let below : nat_le (m * c * 2 ^ 52) (d * c) ≡ nat_le (m * 2 ^ 52) d =
    ap (λ (n : ℕ). nat_le n (d * c)) (omega arith) ∙ le_scaled (m * 2 ^ 52) d c pos in
    let next : (m * c * 2 ^ 52 == d * c * (2 ^ 52 + 1)) ≡ (m * 2 ^ 52 == d * (2 ^ 52 + 1)) =
    let left : m * c * 2 ^ 52 ≡ m * 2 ^ 52 * c = omega arith in
    let right : d * c * (2 ^ 52 + 1) ≡ d * (2 ^ 52 + 1) * c = omega arith in
    rw (left, right) (eq_scaled (m * 2 ^ 52) (d * (2 ^ 52 + 1)) c pos) in
    let even : (m * c % (d * c) == 0) ≡ (m % d == 0) = even_scaled m d c pos in
    let parts : m * c / (d * c) ≡ m / d = mul-div-mul_right m d pos in
    rw (below, next, even, parts) refl

pub alike_scaled : (m d c : ℕ) → 0 < c → ReadAlike m d (m * c) (d * c)
alike_scaled m d c pos = record {
  whole = ap (option_map (min (2 ^ 65))) (sym (whole_scaled m d c pos));
  part = ap (min (2 ^ 65)) (sym (mul-div-mul_right m d pos));
}

-- ---- far below 1, and far above 2 ^ 64

whole_of_small : (m d : ℕ) → m * 2 ^ 52 ≤ d → whole_of m d ≡ Some 0
whole_of_small m d h = grind (arith, nat_tests)

pub alike_small : (m d e : ℕ) → 0 < d → 0 < e → m * 2 ^ 52 ≤ d → m * 2 ^ 52 ≤ e → ReadAlike m d m e
alike_small m d e dp ep dh eh = record {
  whole = ap (option_map (min (2 ^ 65))) (whole_of_small m d dh ∙ sym (whole_of_small m e eh));
  part = ap (min (2 ^ 65)) (div-eq_of_lt (omega arith) ∙ sym (div-eq_of_lt (omega arith)));
}

whole_of_large : (n : ℕ) → 2 ^ 65 ≤ n → whole_of n 1 ≡ Some n
whole_of_large n h = rw (mod-one n, div-one n) (grind (arith, nat_tests))

pub alike_large : (m n : ℕ) → 2 ^ 65 ≤ m → 2 ^ 65 ≤ n → ReadAlike m 1 n 1
alike_large m n mh nh = record {
  whole = rw (whole_of_large m mh, whole_of_large n nh) (ap Some (omega arith));
  part = rw (div-one m, div-one n) (omega arith);
}

pub alike-trans : (m d n e p f : ℕ) → ReadAlike m d n e → ReadAlike n e p f → ReadAlike m d p f
alike-trans m d n e p f a b = record { whole = a.whole ∙ b.whole; part = a.part ∙ b.part }

-- ---- m * 2 ^ scale / 2 ^ ones, with both powers cut

alike-refl : (m d : ℕ) → ReadAlike m d m d
alike-refl m d = record { whole = refl; part = refl }

-- a significand is below 2 ^ 53, so a divisor of 2 ^ 105 is as good as a larger one
cut_down : (m down : ℕ) → m < 2 ^ 53 → ReadAlike m (2 ^ min down 105) m (2 ^ down)
cut_down m down small = elim (leb_tells down 105) [
  | inl p ↦ (let same : min down 105 ≡ down = omega arith in rw same (alike-refl m (2 ^ down)))
  | inr p ↦ (
      let cut : min down 105 ≡ 105 = omega arith in
      let more : 2 ^ 105 ≤ 2 ^ down = pow_mono {i = 105} {j = down} (omega arith) in
      rw cut (alike_small m (2 ^ 105) (2 ^ down) (lit< tt) (pow_pos down) (omega arith) (omega (arith, more)))
      )
]

pub alike_down : (m scale down ones : ℕ) → m < 2 ^ 53 → scale + down ≡ ones →
    ReadAlike m (2 ^ min down 105) (m * 2 ^ scale) (2 ^ ones)
alike_down m scale down ones small e =
    let one : 2 ^ down * 2 ^ scale ≡ 2 ^ ones = sym (pow-add 2 down scale) ∙ ap (λ (n : ℕ). 2 ^ n) (omega arith) in
    alike-trans m (2 ^ min down 105) m (2 ^ down) (m * 2 ^ scale) (2 ^ ones) (cut_down m down small)
    (subst (λ (d : ℕ). ReadAlike m (2 ^ down) (m * 2 ^ scale) d) one (alike_scaled m (2 ^ down) (2 ^ scale) (pow_pos scale)))

-- a significand with a leading one is at least 2 ^ 52, so 13 places reach 2 ^ 65, and more change nothing
cut_up : (m up : ℕ) → 2 ^ 52 ≤ m → ReadAlike (m * 2 ^ min up 13) 1 (m * 2 ^ up) 1
cut_up m up large = elim (leb_tells up 13) [
  | inl p ↦ (let same : min up 13 ≡ up = omega arith in rw same (alike-refl (m * 2 ^ up) 1))
  | inr p ↦ (
      let cut : min up 13 ≡ 13 = omega arith in
      let more : m * 2 ^ 13 ≤ m * 2 ^ up = mul-le-mul_left m (pow_mono {i = 13} {j = up} (omega arith)) in
      rw cut (alike_large (m * 2 ^ 13) (m * 2 ^ up) (omega arith) (omega (arith, more)))
      )
]

pub cut_up_below : (m up : ℕ) → m < 2 ^ 53 → m * 2 ^ min up 13 < 2 ^ 66
cut_up_below m up small =
    let most : m * 2 ^ min up 13 ≤ m * 2 ^ 13 = mul-le-mul_left m (pow_mono {i = min up 13} {j = 13} (omega arith)) in
    omega (arith, most)

pub alike_up : (m scale up ones : ℕ) → 2 ^ 52 ≤ m → scale ≡ ones + up →
    ReadAlike (m * 2 ^ min up 13) 1 (m * 2 ^ scale) (2 ^ ones)
alike_up m scale up ones large e =
    let power : 2 ^ scale ≡ 2 ^ ones * 2 ^ up = ap (λ (n : ℕ). 2 ^ n) e ∙ pow-add 2 ones up in
    let moved : m * 2 ^ up * 2 ^ ones ≡ m * 2 ^ scale = rw power (omega arith) in
    let one : 1 * 2 ^ ones ≡ 2 ^ ones = omega arith in
    alike-trans (m * 2 ^ min up 13) 1 (m * 2 ^ up) 1 (m * 2 ^ scale) (2 ^ ones) (cut_up m up large)
    (rw (moved, one) at (alike_scaled (m * 2 ^ up) 1 (2 ^ ones) (pow_pos ones)))
