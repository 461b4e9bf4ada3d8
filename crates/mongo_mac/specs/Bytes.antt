-- Lists of bytes side by side.
use Rattle.std.specs.Prelude.{ℕ, List, [], ◌∷◌, bit_xor}

-- the XOR of two lists of one length, byte by byte
unfoldable pub xor_bytes : List ℕ → List ℕ → List ℕ
xor_bytes [] ys = []
xor_bytes (x ∷ xs) [] = []
xor_bytes (x ∷ xs) (y ∷ ys) = bit_xor x y ∷ xor_bytes xs ys
