-- A line of the report: its name, then each of its words after one space, and a line feed.
use Rattle.std.specs.Prelude.{ℕ, Option, None, Some, List, [], ◌∷◌, ◌++◌, codes}
use Rattle.hex.specs.Hex.{encode_lower}

-- each word after one space
abbrev pub spaced : List (List ℕ) → List ℕ
spaced [] = []
spaced (word ∷ words) = 32 ∷ (word ++ spaced words)

abbrev pub line : List ℕ → List (List ℕ) → List ℕ
line name words = name ++ (spaced words ++ 10 ∷ [])

-- a text in lower-case hex; a text of no bytes is the word `empty`
abbrev pub text_word : List ℕ → List ℕ
text_word [] = codes "empty"
text_word (byte ∷ bytes) = encode_lower (byte ∷ bytes)

-- the word of a value, or `-` where it is absent
abbrev pub spelled_or_dash : {A : Type 0} → (A → List ℕ) → Option A → List ℕ
spelled_or_dash spelled None = codes "-"
spelled_or_dash spelled (Some value) = spelled value
