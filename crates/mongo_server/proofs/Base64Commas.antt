-- A base64 text holds no comma.
use Rattle.std.proofs.Common.{◌≡◌, ◌≢◌, ◌/◌, ◌%◌, ◌*◌, ◌+◌, ℕ, zero, suc, List, [], ◌∷◌, ◌++◌, replicate, slice_index, refl, arith, inl, inr}
use Rattle.std.proofs.lemmas.Bool.{cases_lt}
use Rattle.std.proofs.lemmas.List.{get_or_past}
use Rattle.base64.specs.Engines.{standard}
use Rattle.base64.specs.Rfc4648.{encode_symbols}
use Rattle.base64.proofs.Tables.{is_alphabet_symbol}
use Rattle.mongo_scram.specs.Base64.{base64_of}
use Rattle.mongo_scram.specs.ServerMessages.{HasNo}

-- the symbols
abbrev symbols : List ℕ
symbols = standard.encode_table

symbol : (i : ℕ) → slice_index symbols i ≢ 0x2C
symbol i = elim (cases_lt i 64) [
  | inl below ↦ (is_alphabet_symbol symbols 0x2C i refl below).2
  | inr past ↦ λ is. let none : slice_index symbols i ≡ 0 = get_or_past symbols i 0 past in absurd (omega (arith, is, none))
]

symbols_no_comma : (bytes : List ℕ) → HasNo 0x2C (encode_symbols symbols bytes)
unfolding encode_symbols
symbols_no_comma [] = tt
symbols_no_comma (a ∷ []) = (symbol (a / 4), (symbol (a % 4 * 16), tt))
symbols_no_comma (a ∷ b ∷ []) = (symbol (a / 4), (symbol (a % 4 * 16 + b / 16), (symbol (b % 16 * 4), tt)))
symbols_no_comma (a ∷ b ∷ c ∷ rest) = (symbol (a / 4), (symbol (a % 4 * 16 + b / 16), (symbol (b % 16 * 4 + c / 64), (symbol (c % 64), symbols_no_comma rest))))

pub no_comma_joined : (xs ys : List ℕ) → HasNo 0x2C xs → HasNo 0x2C ys → HasNo 0x2C (xs ++ ys)
no_comma_joined [] ys p q = q
no_comma_joined (x ∷ xs) ys p q = (p.0, no_comma_joined xs ys p.1 q)

padding : (n : ℕ) → HasNo 0x2C (replicate n 61)
padding zero = tt
padding (suc n) = (λ is. absurd (omega arith), padding n)

pub base64-no_comma : (bytes : List ℕ) → HasNo 0x2C (base64_of bytes)
unfolding base64_of
base64-no_comma bytes = no_comma_joined (encode_symbols symbols bytes) (replicate _ 61) (symbols_no_comma bytes) (padding _)
