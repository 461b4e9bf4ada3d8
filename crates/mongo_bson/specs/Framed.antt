-- The frame of a document, BSON 1.1: its first four bytes are its whole length as an int32, low byte first, and its
-- last byte is zero.
use Rattle.std.specs.Prelude.{◌≡◌, ℕ, ◌+◌, ◌-◌, ◌^◌, ◌≤◌, List, [], ◌∷◌, ◌++◌, length, take, drop, slice_index}
use Rattle.std.specs.Int.{to_le_bytes, from_le_bytes, w32}

-- the greatest length of a document: the greatest int32
abbrev pub maximum_length : ℕ
maximum_length = 2 ^ 31 - 1

pub record IsFramed (b : List ℕ) : Type 0 where
  pub least : 5 ≤ length b
  pub most : length b ≤ maximum_length
  pub counted : from_le_bytes w32 b ≡ length b
  pub ended : slice_index b (length b - 1) ≡ 0

-- the bytes of its elements: what stands between the length and the final zero
abbrev pub element_bytes : List ℕ → List ℕ
element_bytes b = take (length b - 5) (drop 4 b)

-- the document whose elements lie as these bytes
abbrev pub enclosed : List ℕ → List ℕ
enclosed elements = to_le_bytes w32 (length elements + 5) ++ (elements ++ 0 ∷ [])
