-- The fixed store of a tag: its bytes, and zeros behind them, so that the bytes and the store fix
-- each other.
use Rattle.std.specs.Prelude.{◌≡◌, ℕ, ◌-◌, ◌≤◌, List, ◌++◌, take, drop, length, replicate}
use Rattle.std.proofs.Common.{ap, sym, ◌∙◌, arith}
use Rattle.std.proofs.lemmas.List.{length-take-le, take-append-drop}

-- the store holds `len` bytes, and zeros behind them to 32
pub record IsZeroFilled (store : List ℕ) (len : ℕ) : Type 0 where
  pub fits : len ≤ 32
  pub whole : length store ≡ 32
  pub zeros : drop len store ≡ replicate (32 - len) 0

-- the store of a list of bytes
abbrev pub store_of : List ℕ → List ℕ
store_of bytes = bytes ++ replicate (32 - length bytes) 0

pub length_held : (store : List ℕ) (len : ℕ) → IsZeroFilled store len →
    length (take len store) ≡ len
length_held store len z =
    let fits : len ≤ length store = omega (arith, z.fits, z.whole) in length-take-le len store fits

pub store_of_held : (store : List ℕ) (len : ℕ) → IsZeroFilled store len →
    store_of (take len store) ≡ store
store_of_held store len z =
    ap (λ n. take len store ++ replicate (32 - n) 0) (length_held store len z)
    ∙ ap (λ rest. take len store ++ rest) (sym z.zeros)
    ∙ take-append-drop len store
