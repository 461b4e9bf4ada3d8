-- The variables of an environment, and the numbers that they hold.
use Rattle.std.specs.Prelude.{ℕ, ℤ, pos, negsuc, ◌^◌, ◌&&◌, nat_lt, Bool, false, Option, None, Some, option_map, option_and_then, List, bytes_eq, length, if◌then◌else◌}
use Rattle.std.specs.List.{find, list_all}
use Rattle.std.specs.Char.{digit_value}
use Rattle.std.specs.Str.Parse.{without_leading_sign, signed_digits_value}
use Rattle.mongo_meta.specs.declared.environment.Variable.{Variable}
use Rattle.mongo_meta.specs.declared.environment.Environment.{Environment}

-- the value of the first variable of a name
abbrev pub first_value : List ℕ → List Variable → Option (List ℕ)
first_value name variables = option_map (λ v. v.value) (find (λ v. bytes_eq v.name name) variables)

abbrev pub variable_value : List ℕ → Environment → Option (List ℕ)
variable_value name env = first_value name env.variables

abbrev pub is_filled : Option (List ℕ) → Bool
is_filled None = false
is_filled (Some value) = nat_lt 0 (length value)

-- a variable is there and not empty
abbrev pub is_set : List ℕ → Environment → Bool
is_set name env = is_filled (variable_value name env)

-- one decimal digit or more, after a sign where there is one, that write an int32
abbrev pub is_numeral : List ℕ → Bool
is_numeral digits = nat_lt 0 (length digits) && list_all (λ c. nat_lt (digit_value c) 10) digits

-- from -2147483648 up to 2147483647; `negsuc n` is -(n + 1)
abbrev pub is_int32 : ℤ → Bool
is_int32 (pos n) = nat_lt n (2 ^ 31)
is_int32 (negsuc n) = nat_lt n (2 ^ 31)

abbrev pub number_in : List ℕ → Option ℤ
number_in text = if is_numeral (without_leading_sign text) && is_int32 (signed_digits_value 10 text) then Some (signed_digits_value 10 text) else None

-- the number that a variable holds
abbrev pub number_under : List ℕ → Environment → Option ℤ
number_under name env = option_and_then number_in (variable_value name env)
