-- Two lists of one length are one exactly where the OR of their bytes' XORs is zero.
use Rattle.std.proofs.Common.{◌≡◌, ◌<◌, ◌≤◌, ◌+◌, ◌↔◌, ℕ, List, take, length, get_or, refl, sym, ap, ◌∙◌, arith}
use Rattle.std.specs.Prelude.{bit_or, bit_xor}
use Rattle.std.specs.Int.Bits.{xor_add_and, xor_self, or_zero_l}
use Rattle.std.proofs.lemmas.Nat.{and_le_l, and_le_r, le_or_l, le_or_r}
use Rattle.std.proofs.lemmas.List.{take_more_same, take-take, get_or-take}

bit_xor-zero : (a b : ℕ) → bit_xor a b ≡ 0 → a ≡ b
bit_xor-zero a b none = omega (arith, xor_add_and a b, and_le_l a b, and_le_r a b)

bit_or-zero : (a b : ℕ) → bit_or a b ≡ 0 → (a ≡ 0) × (b ≡ 0)
bit_or-zero a b none = (omega (arith, le_or_l a b), omega (arith, le_or_r a b))

-- one byte more
pub no_difference_more : (difference : ℕ) (left right : List ℕ) (i : ℕ) → i < length left →
    i < length right → (difference ≡ 0) ↔ (take i left ≡ take i right) →
    (bit_or difference (bit_xor (get_or left i 0) (get_or right i 0)) ≡ 0)
    ↔ (take (i + 1) left ≡ take (i + 1) right)
no_difference_more difference left right i in_left in_right so_far =
    let here = get_or left i 0 in
    let there = get_or right i 0 in (
      λ none.
          let parts = bit_or-zero difference (bit_xor here there) none in
          take_more_same left right i 0 in_left in_right (so_far.0 parts.0) (bit_xor-zero here there parts.1),
      λ same.
          let below : i < i + 1 = omega arith in
          let at_most : i ≤ i + 1 = omega arith in
          let front : take i left ≡ take i right =
          sym (take-take i (i + 1) left at_most) ∙ ap (take i) same
          ∙ take-take i (i + 1) right at_most in
          let last : here ≡ there =
          sym (get_or-take (i + 1) left i 0 below) ∙ ap (λ l. get_or l i 0) same ∙ get_or-take (i + 1) right i 0 below in
          rw (so_far.1 front, last, xor_self, or_zero_l) refl,
    )
