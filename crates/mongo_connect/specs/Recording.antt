-- What a recording knows of the link that it passes calls on to.
use Rattle.std.specs.Prelude.{◌≡◌, ℕ, ◌-◌, ◌^◌, ◌≤◌, min, Option, Some, Result, Ok, Err, List, length}

-- So many of these bytes were taken and the others are left, where both are told. A count of 64 bits stays at its last value.
abbrev pub IsTakenCount : Option (List ℕ) → Option (List ℕ) → ℕ → Type 0
IsTakenCount old new count = (bytes rest : List ℕ) → old ≡ Some bytes → new ≡ Some rest → (length rest ≤ length bytes) × (count ≡ min (length bytes - length rest) (2 ^ 64 - 1))

-- how many bytes a read gave
abbrev pub given_count : {E : Type 0} → Result ℕ E → ℕ
given_count (Ok count) = count
given_count (Err failed) = 0
