-- One round more of a derivation.
use Rattle.std.proofs.Common.{◌≡◌, ◌≤◌, ◌+◌, ℕ, zero, suc, List, arith, refl}
use Rattle.mongo_mac.specs.Bytes.{xor_bytes}
use Rattle.mongo_mac.specs.Hi.{u_of, hi_under}

pub u_more : (mac : List ℕ → List ℕ) (salt : List ℕ) (i : ℕ) →
    u_of mac salt (i + 1) ≡ mac (u_of mac salt i)
unfolding u_of
u_more mac salt i = let next : i + 1 ≡ suc i = omega arith in rw next refl

pub hi_more : (mac : List ℕ → List ℕ) (salt : List ℕ) (i : ℕ) → 1 ≤ i →
    hi_under mac salt (i + 1) ≡ xor_bytes (hi_under mac salt i) (u_of mac salt (i + 1))
unfolding hi_under
hi_more mac salt zero least = absurd (omega arith)
hi_more mac salt (suc i) least = let next : suc i + 1 ≡ suc (suc i) = omega arith in rw next refl
