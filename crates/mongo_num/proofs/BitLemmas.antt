-- Patterns of bits: what `&`, `|` and `^` do to them.
use Rattle.std.proofs.Common.{◌≡◌, ◌∙◌, ℕ, ◌<◌, ◌≤◌, ◌^◌, ℤ, pos, negsuc, arith, lit≤}
use Rattle.std.specs.Prelude.{FitsSigned}
use mir.Val.{bits, hbits}
use Rattle.std.specs.Int.{Width, w8, w16, w32, w64, w128, cast_signed, cast_unsigned}
use Rattle.std.proofs.Math.Facts.{sfits_to_z, Fits-of_lt, Fits-of_z, Fits-lt-pow}
use Rattle.std.proofs.lemmas.Int.{of_z-to_z}
use Rattle.std.proofs.Math.Nat.{mod-eq_of_lt}
use Rattle.mongo_num.specs.Exact.{pattern_of}

-- an operation on numbers of k bits that gives one of k bits
abbrev Stays : (ℕ → ℕ → ℕ) → Type 0
Stays op = (k a b : ℕ) → a < 2 ^ k → b < 2 ^ k → op a b < 2 ^ k

-- an unsigned number is its own pattern
pub unsigned_bits : (k : ℕ) (op : ℕ → ℕ → ℕ) → Stays op → (a b : ℕ) → a < 2 ^ k → b < 2 ^ k →
    pattern_of k (pos (op a b)) ≡ op (pattern_of k (pos a)) (pattern_of k (pos b))
unsigned_bits k op stays a b small also =
    rw (mod-eq_of_lt small, mod-eq_of_lt also) (mod-eq_of_lt (stays k a b small also))

half_fits : (w : Width) → 2 ^ hbits w ≤ 2 ^ bits w
half_fits w8 = lit≤ tt
half_fits w16 = lit≤ tt
half_fits w32 = lit≤ tt
half_fits w64 = lit≤ tt
half_fits w128 = lit≤ tt

cast_unsigned-lt : (w : Width) (z : ℤ) → FitsSigned w z → cast_unsigned w z < 2 ^ bits w
cast_unsigned-lt w z fits = Fits-lt-pow (Fits-of_z fits)

pattern_of-signed : (w : Width) (z : ℤ) → FitsSigned w z → pattern_of (bits w) z ≡ cast_unsigned w z
pattern_of-signed w (pos n) fits = mod-eq_of_lt (cast_unsigned-lt w (pos n) fits)
pattern_of-signed w (negsuc n) fits =
    let small : n < 2 ^ bits w = omega (arith, fits.sfits, half_fits w) in
    rw (mod-eq_of_lt small) (omega arith)

-- a signed number is the pattern that it is cast to
pub signed_bits : (w : Width) (op : ℕ → ℕ → ℕ) → Stays op → (a b : ℤ) → FitsSigned w a → FitsSigned w b →
    pattern_of (bits w) (cast_signed w (op (cast_unsigned w a) (cast_unsigned w b)))
    ≡ op (pattern_of (bits w) a) (pattern_of (bits w) b)
signed_bits w op stays a b fits also =
    let below : op (cast_unsigned w a) (cast_unsigned w b) < 2 ^ bits w =
    stays (bits w) _ _ (cast_unsigned-lt w a fits) (cast_unsigned-lt w b also) in
    rw (pattern_of-signed w a fits, pattern_of-signed w b also)
    (pattern_of-signed w _ (sfits_to_z (Fits-of_lt below)) ∙ of_z-to_z w _ below)
