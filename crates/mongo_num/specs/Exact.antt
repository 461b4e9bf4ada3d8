-- What an operator on checked numbers gives, over whole numbers: the exact value, or nothing where the type
-- has no such number. A type is seen by the `number` of each of its values and by its `least` and
-- `greatest` number. An operand or a result that holds no number is `None`.
use Rattle.std.specs.Prelude.{Option, None, Some, ◌≡◌, ◌≢◌, ℕ, ◌<◌, ◌^◌, ◌-◌, ℤ, pos, negsuc, ◌+ℤ◌, ◌-ℤ◌, ◌*ℤ◌, ◌≤ℤ◌, ◌↔◌, int_div, int_le, if◌then◌else◌, IsSome, IfSome, IsSomeAnd, unsigned_abs}
use Rattle.std.specs.Int.{int_rem_euclid}

-- n is one of the type's numbers
pub record IsWithin (least greatest n : ℤ) : Type 0 where
  pub low : least ≤ℤ n
  pub high : n ≤ℤ greatest

-- n is a number of some type of 64 bits: from -(2 ^ 63) to 2 ^ 64 - 1
abbrev pub IsNarrow : ℤ → Type 0
IsNarrow n = IsWithin (negsuc (2 ^ 63 - 1)) (pos (2 ^ 64 - 1)) n

-- r holds the number n where P holds, and nothing where it does not
pub record HoldsWhere {T : Type 0} (number : T → ℤ) (P : Type 0) (n : ℤ) (r : Option T) : Type 0 where
  pub there : IsSome r ↔ P
  pub value : IfSome r (λ x. number x ≡ n)

-- r holds the number n, or nothing where n is not one of the type's
abbrev pub HoldsExactly : {T : Type 0} → (T → ℤ) → ℤ → ℤ → ℤ → Option T → Type 0
HoldsExactly number least greatest n r = HoldsWhere number (IsWithin least greatest n) n r

-- `+`, `-` and `*`, which are `op` on whole numbers
abbrev pub GivesExactly : {T : Type 0} → (T → ℤ) → ℤ → ℤ → (ℤ → ℤ → ℤ) → Option T → Option T → Option T → Type 0
GivesExactly number least greatest op None b r = r ≡ None
GivesExactly number least greatest op (Some x) None r = r ≡ None
GivesExactly number least greatest op (Some x) (Some y) r =
    HoldsExactly number least greatest (op (number x) (number y)) r

-- m can be divided by n: n is not 0, and the quotient, cut towards 0, is one of the type's numbers
pub record Divides (least greatest m n : ℤ) : Type 0 where
  pub nonzero : n ≢ pos 0
  pub quotient : IsWithin least greatest (int_div m n)

-- `/` and `%`, which are `op` on whole numbers: the quotient, cut towards 0, and its remainder
abbrev pub GivesDivided : {T : Type 0} → (T → ℤ) → ℤ → ℤ → (ℤ → ℤ → ℤ) → Option T → Option T → Option T → Type 0
GivesDivided number least greatest op None b r = r ≡ None
GivesDivided number least greatest op (Some x) None r = r ≡ None
GivesDivided number least greatest op (Some x) (Some y) r =
    HoldsWhere number (Divides least greatest (number x) (number y)) (op (number x) (number y)) r

-- `-` and `!` of one operand, which are `op` on whole numbers
abbrev pub GivesOfOne : {T : Type 0} → (T → ℤ) → ℤ → ℤ → (ℤ → ℤ) → Option T → Option T → Type 0
GivesOfOne number least greatest op None r = r ≡ None
GivesOfOne number least greatest op (Some x) r = HoldsExactly number least greatest (op (number x)) r

-- the number whose bits are each turned over: the one as far from the greatest as n is from the least
abbrev pub complement : ℤ → ℤ → ℤ → ℤ
complement least greatest n = (least +ℤ greatest) -ℤ n

-- the lowest bits of n in two's complement, as a number from 0 to 2 ^ width - 1
abbrev pub pattern_of : ℕ → ℤ → ℕ
pattern_of width n = unsigned_abs (int_rem_euclid n (pos (2 ^ width)))

-- the bits of n are what `op` gives of those of l and m
abbrev pub CombinesBits : ℕ → (ℕ → ℕ → ℕ) → ℤ → ℤ → ℤ → Type 0
CombinesBits width op l m n = pattern_of width n ≡ op (pattern_of width l) (pattern_of width m)

-- `&`, `|` and `^`, which are `op` on patterns of bits
abbrev pub GivesBits : {T : Type 0} → (T → ℤ) → ℕ → (ℕ → ℕ → ℕ) → Option T → Option T → Option T → Type 0
GivesBits number width op None b r = r ≡ None
GivesBits number width op (Some x) None r = r ≡ None
GivesBits number width op (Some x) (Some y) r =
    IsSomeAnd r (λ z. CombinesBits width op (number x) (number y) (number z))

-- the number up to `greatest` that has the same lowest `width` bits as n
abbrev pub wrapped : ℕ → ℤ → ℤ → ℤ
wrapped width greatest n =
    let low_bits = int_rem_euclid n (pos (2 ^ width)) in
    if int_le low_bits greatest then low_bits else (low_bits -ℤ pos (2 ^ width))

-- n with its bits moved up by k places: those moved past the width are lost
abbrev pub shifted_left : ℕ → ℤ → ℤ → ℕ → ℤ
shifted_left width greatest n k = wrapped width greatest (n *ℤ pos (2 ^ k))

-- `<<` and `>>`, which are `op` on a whole number and the places: nothing at the width or more
abbrev pub GivesShifted : {T : Type 0} → (T → ℤ) → ℕ → (ℤ → ℕ → ℤ) → Option T → Option ℕ → Option T → Type 0
GivesShifted number width op None k r = r ≡ None
GivesShifted number width op (Some x) None r = r ≡ None
GivesShifted number width op (Some x) (Some k) r = HoldsWhere number (k < width) (op (number x) k) r
