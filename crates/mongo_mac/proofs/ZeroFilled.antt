-- The store of a tag as it is first filled.
use Rattle.std.proofs.Common.{◌≡◌, ◌≤◌, ◌-◌, ℕ, List, ◌++◌, take, drop, length, replicate, refl, ap, sym, subst, ◌∙◌, arith}
use Rattle.std.proofs.lemmas.List.{length-append, length-drop, length-replicate, drop_at, drop-replicate}
use Rattle.mongo_mac.specs.Bytes.{xor_bytes}
use Rattle.mongo_mac.specs.TagStore.{IsZeroFilled, length_held}
use Rattle.mongo_mac.proofs.XorBytes.{length-xor_bytes, take-xor_bytes, drop-xor_bytes, xor_bytes-zeros}

-- bytes written over the front of 32 zeros
pub zero_filled : (bytes : List ℕ) → length bytes ≤ 32 →
    IsZeroFilled (bytes ++ drop (length bytes) (replicate 32 0)) (length bytes)
zero_filled bytes fits = record {
  fits = fits;
  whole = omega (
    arith,
    length-append bytes (drop (length bytes) (replicate 32 0)),
    length-drop {A = ℕ} (length bytes) (replicate 32 0),
    length-replicate {A = ℕ} 32 0,
  );
  zeros = drop_at bytes (drop (length bytes) (replicate 32 0)) (length bytes) refl
      ∙ drop-replicate (length bytes) 32 0;
}

same_lengths : (a b : List ℕ) (m n : ℕ) → IsZeroFilled a m → IsZeroFilled b n →
    length (take m a) ≡ length (take n b) → n ≡ m
same_lengths a b m n left right same = sym (length_held b n right) ∙ sym same ∙ length_held a m left

xor_zero_filled : (a b : List ℕ) (n : ℕ) → IsZeroFilled a n → IsZeroFilled b n →
    IsZeroFilled (xor_bytes a b) n
xor_zero_filled a b n left right = record {
  fits = left.fits;
  whole = length-xor_bytes a b (left.whole ∙ sym right.whole) ∙ left.whole;
  zeros = drop-xor_bytes n a b
      ∙ ap (λ rest. xor_bytes rest (drop n b)) left.zeros
      ∙ ap (xor_bytes (replicate (32 - n) 0)) right.zeros
      ∙ xor_bytes-zeros (32 - n);
}

-- the XOR of two stores that hold as many bytes is the store of the bytes' XOR
pub xor_stores : (a b : List ℕ) (m n : ℕ) → IsZeroFilled a m → IsZeroFilled b n →
    length (take m a) ≡ length (take n b) →
    IsZeroFilled (xor_bytes a b) m × (take m (xor_bytes a b) ≡ xor_bytes (take m a) (take n b))
xor_stores a b m n left right same =
    let lengths = same_lengths a b m n left right same in (
      xor_zero_filled a b m left (subst (IsZeroFilled b) lengths right),
      take-xor_bytes m a b ∙ ap (λ k. xor_bytes (take m a) (take k b)) (sym lengths),
    )
