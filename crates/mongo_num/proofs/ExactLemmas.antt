-- Facts on what the operators give.
use Rattle.std.proofs.Common.{Option, None, true, false, refl, lit<, ℕ, ◌≡◌, ◌≤◌, ◌<◌, ◌%◌, ◌*◌, ◌^◌, ◌-◌, suc, ℤ, pos, negsuc, ◌*ℤ◌, ◌+ℤ◌, ◌-ℤ◌, ◌≤ℤ◌, ◌≢◌, ◌∙◌, arith, rules, ap, subst, sym}
use Rattle.std.specs.Prelude.{int_div, int_rem, int_le, unsigned_abs, FitsSigned, IfSome}
use Rattle.std.specs.Int.{w128, IsNonNegative, cast_signed, cast_unsigned, CanDivide, int_rem_euclid}
use Rattle.std.proofs.lemmas.Int.{ints, to_z-of_z, fits_signed_mul}
use Rattle.std.proofs.lemmas.Nat.{pow_below}
use Rattle.std.proofs.Math.Pow.{pow_mono}
use Rattle.mongo_num.specs.Exact.{IsWithin, IsNarrow, HoldsWhere, HoldsExactly, Divides, wrapped}

-- how the goals write a number of `i128` that is passed on
abbrev pub passed : ℤ → ℤ
passed n = cast_signed w128 (cast_unsigned w128 n)

pub passed_is : (n : ℤ) → FitsSigned w128 n → passed n ≡ n
passed_is n fits = to_z-of_z w128 n fits

narrow_fits : (n : ℤ) → IsNarrow n → FitsSigned w128 n
narrow_fits n h = grind (arith, ints)

pub passed_narrow : (n : ℤ) → IsNarrow n → passed n ≡ n
passed_narrow n h = passed_is n (narrow_fits n h)

-- the difference of two narrow numbers, and one more
pub difference_fits : (m n : ℤ) → IsNarrow m → IsNarrow n → FitsSigned w128 (m -ℤ n)
difference_fits m n a b = omega (arith, ints, a.low, a.high, b.low, b.high)

pub next_fits : (m n : ℤ) → IsNarrow m → IsNarrow n → FitsSigned w128 ((m -ℤ n) +ℤ pos 1)
next_fits m n a b = omega (arith, ints, a.low, a.high, b.low, b.high)

pub next_most : (m n : ℤ) → IsNarrow m → IsNarrow n → ((m -ℤ n) +ℤ pos 1) ≤ℤ pos (2 ^ 65)
next_most m n a b = omega (arith, ints, a.low, a.high, b.low, b.high)

pub next_is : (m n : ℤ) → IsNarrow m → IsNarrow n →
    passed (passed (passed m -ℤ passed n) +ℤ pos 1) ≡ (m -ℤ n) +ℤ pos 1
next_is m n a b =
    rw (passed_narrow m a, passed_narrow n b, passed_is (m -ℤ n) (difference_fits m n a b))
    (passed_is ((m -ℤ n) +ℤ pos 1) (next_fits m n a b))

-- a remainder lies between 0 and what was divided
pub remainder_within : (least greatest m n : ℤ) → least ≤ℤ pos 0 → pos 0 ≤ℤ greatest → IsWithin least greatest m →
    IsWithin least greatest (int_rem m n)
remainder_within least greatest (pos a) n low high h =
    let below : a % unsigned_abs n ≤ a = grind arith in
    record { low = grind (arith, ints); high = grind (arith, ints) }
remainder_within least greatest (negsuc a) n low high h =
    let below : suc a % unsigned_abs n ≤ suc a = grind arith in
    record { low = grind (arith, ints); high = grind (arith, ints) }

-- a divisor by which 128 bits can be divided
divisor_nonzero : (n : ℤ) → IsNarrow n → 0 < cast_unsigned w128 (passed n) → n ≢ pos 0
divisor_nonzero n b d z =
    let lt : 0 < 0 = subst (λ (k : ℤ). 0 < cast_unsigned w128 k) (passed_narrow n b ∙ z) d in
    omega arith

divisor_counts : (n : ℤ) → IsNarrow n → n ≢ pos 0 → 0 < cast_unsigned w128 (passed n)
divisor_counts n b nonzero = subst (λ (k : ℤ). 0 < cast_unsigned w128 k) (sym (passed_narrow n b)) (grind (arith, ints))

-- 128 bits have a quotient that the type has
pub can_divide : (least greatest m n : ℤ) → IsNarrow m → IsNarrow n → ((k : ℤ) → IsWithin least greatest k → IsNarrow k) →
    Divides least greatest m n → CanDivide w128 (passed m) (passed n)
can_divide least greatest m n a b narrow d =
    (divisor_counts n b d.nonzero, rw (passed_narrow m a, passed_narrow n b) (narrow_fits _ (narrow _ d.quotient)))

-- the lowest bits on 128 bits
low_bits_is : (n m low : ℤ) (k : ℕ) → FitsSigned w128 n → FitsSigned w128 m → m ≡ pos (2 ^ k) →
    low ≡ int_rem_euclid (passed n) (passed m) → low ≡ int_rem_euclid n (pos (2 ^ k))
low_bits_is n m low k f g e h = h ∙ cc (passed_is n f, passed_is m g, e)

wrapped_low : (k : ℕ) (greatest n low : ℤ) → low ≡ int_rem_euclid n (pos (2 ^ k)) → int_le low greatest ≡ true →
    low ≡ wrapped k greatest n
wrapped_low k greatest n low e t = rw (← e, t) refl

wrapped_high : (k : ℕ) (greatest n low : ℤ) → low ≡ int_rem_euclid n (pos (2 ^ k)) → int_le low greatest ≡ false →
    low -ℤ pos (2 ^ k) ≡ wrapped k greatest n
wrapped_high k greatest n low e t = rw (← e, t) refl

module _ {T : Type 0} (number : T → ℤ) (greatest : ℤ) where
  -- the lowest bits, where they are at most the greatest number
  pub wrapped_holds : (n m low top : ℤ) (k : ℕ) (r : Option T) → FitsSigned w128 n → FitsSigned w128 m →
      FitsSigned w128 low → IsNarrow top → m ≡ pos (2 ^ k) → top ≡ greatest →
      low ≡ int_rem_euclid (passed n) (passed m) → int_le (passed low) (passed top) ≡ true →
      IfSome r (λ x. number x ≡ passed low) → IfSome r (λ x. number x ≡ wrapped k greatest n)
  wrapped_holds n m low top k r f g l t e same is_low at_most held =
      let test : int_le low greatest ≡ true = rw (passed_is low l, passed_narrow top t, same) at at_most in
      subst (λ (z : ℤ). IfSome r (λ x. number x ≡ z))
      (passed_is low l ∙ wrapped_low k greatest n low (low_bits_is n m low k f g e is_low) test) held

  -- the lowest bits less the count of the type's values, where they are more
  pub wrapped_down_holds : (n m low top : ℤ) (k : ℕ) (r : Option T) → FitsSigned w128 n → FitsSigned w128 m →
      FitsSigned w128 low → IsNarrow top → m ≡ pos (2 ^ k) → top ≡ greatest → m ≤ℤ pos (2 ^ 65) → IsNonNegative low →
      low ≡ int_rem_euclid (passed n) (passed m) → int_le (passed low) (passed top) ≡ false →
      IfSome r (λ x. number x ≡ passed (passed low -ℤ passed m)) → IfSome r (λ x. number x ≡ wrapped k greatest n)
  wrapped_down_holds n m low top k r f g l t e same most least is_low above held =
      let test : int_le low greatest ≡ false = rw (passed_is low l, passed_narrow top t, same) at above in
      let fits : FitsSigned w128 (low -ℤ m) = omega (arith, ints) in
      let down : passed (passed low -ℤ passed m) ≡ low -ℤ pos (2 ^ k) =
      rw (passed_is low l, passed_is m g) (passed_is (low -ℤ m) fits ∙ ap (λ (z : ℤ). low -ℤ z) e) in
      subst (λ (z : ℤ). IfSome r (λ x. number x ≡ z))
      (down ∙ wrapped_high k greatest n low (low_bits_is n m low k f g e is_low) test) held

module _ {T : Type 0} (number : T → ℤ) (least greatest : ℤ) where
  -- the same, of an equal number
  pub holds_equal : (m n : ℤ) (r : Option T) → m ≡ n → HoldsExactly number least greatest m r →
      HoldsExactly number least greatest n r
  holds_equal m n r e h = subst (λ (k : ℤ). HoldsExactly number least greatest k r) e h

  -- a product on 128 bits
  pub product_holds : (m n q : ℤ) (r : Option T) → IsNarrow m → IsNarrow n → FitsSigned w128 q →
      q ≡ passed m *ℤ passed n → HoldsExactly number least greatest (passed q) r →
      HoldsExactly number least greatest (m *ℤ n) r
  product_holds m n q r a b f e h =
      holds_equal (passed q) (m *ℤ n) r (passed_is q f ∙ e ∙ cc (passed_narrow m a, passed_narrow n b)) h

  -- a product that 128 bits do not have
  pub no_product : (m n : ℤ) → IsNarrow m → IsNarrow n → ((k : ℤ) → IsWithin least greatest k → IsNarrow k) →
      (FitsSigned w128 (passed m *ℤ passed n) → ⊥) → HoldsExactly number least greatest (m *ℤ n) None
  no_product m n a b narrow none =
      let outside : IsWithin least greatest (m *ℤ n) → ⊥ =
      λ h. none (rw (passed_narrow m a, passed_narrow n b) (narrow_fits (m *ℤ n) (narrow (m *ℤ n) h))) in
      record { there = (search rules, λ h. absurd (outside h)); value = search rules }

  -- a quotient that 128 bits do not have
  pub no_quotient : (m n z : ℤ) → IsNarrow m → IsNarrow n → ((k : ℤ) → IsWithin least greatest k → IsNarrow k) →
      (CanDivide w128 (passed m) (passed n) → ⊥) → HoldsWhere number (Divides least greatest m n) z None
  no_quotient m n z a b narrow none =
      record { there = (search rules, λ d. absurd (none (can_divide least greatest m n a b narrow d))); value = search rules }

  -- a quotient on 128 bits
  pub quotient_holds : (m n q : ℤ) (r : Option T) → IsNarrow m → IsNarrow n → FitsSigned w128 q →
      CanDivide w128 (passed m) (passed n) × (q ≡ int_div (passed m) (passed n)) →
      HoldsExactly number least greatest (passed q) r → HoldsWhere number (Divides least greatest m n) (int_div m n) r
  quotient_holds m n q r a b f (d, e) h =
      let same : passed q ≡ int_div m n = passed_is q f ∙ cc (passed_narrow m a, passed_narrow n b) in
      let k : HoldsExactly number least greatest (int_div m n) r = holds_equal (passed q) (int_div m n) r same h in
      let nonzero : n ≢ pos 0 = divisor_nonzero n b d.0 in
      record {
        there = (λ s. record { nonzero = nonzero; quotient = k.there.0 s }, λ d. k.there.1 d.quotient);
        value = k.value;
      }

  -- the remainder beside a quotient, which is a number of the type where the dividend is one
  pub remainder_holds : (m n q : ℤ) (r : Option T) → IsNarrow m → IsNarrow n → FitsSigned w128 q →
      q ≡ int_rem (passed m) (passed n) → HoldsExactly number least greatest (passed q) r →
      Divides least greatest m n → IsWithin least greatest (int_rem m n) →
      HoldsWhere number (Divides least greatest m n) (int_rem m n) r
  remainder_holds m n q r a b f e h d within =
      let same : passed q ≡ int_rem m n = passed_is q f ∙ cc (passed_narrow m a, passed_narrow n b) in
      let k : HoldsExactly number least greatest (int_rem m n) r = holds_equal (passed q) (int_rem m n) r same h in
      record { there = (λ _. d, λ _. k.there.1 within); value = k.value }

abs_narrow : (m : ℤ) → IsNarrow m → unsigned_abs m ≤ 2 ^ 64 - 1
abs_narrow (pos a) h = grind (arith, ints)
abs_narrow (negsuc a) h = grind (arith, ints)

-- a power below 128 bits, as the goals write `1 << k`
pub shifted_one : (k : ℕ) → k < 64 → cast_signed w128 (1 * 2 ^ k % 2 ^ 128) ≡ pos (2 ^ k)
shifted_one k h = let small : 2 ^ k < 2 ^ 64 = pow_below k 64 h in grind (arith, ints)

-- a narrow number moved up by fewer than 64 places has 128 bits at most
pub moved_up_fits : (m : ℤ) (k : ℕ) → IsNarrow m → k < 64 → FitsSigned w128 (m *ℤ pos (2 ^ k))
moved_up_fits m k h below =
    fits_signed_mul w128 m (pos (2 ^ k)) (2 ^ 64 - 1) (2 ^ 63) (abs_narrow m h)
    (pow_mono {i = k} {j = 63} (omega arith)) (lit< tt)
