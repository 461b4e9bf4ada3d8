-- A user name as SCRAM messages carry it (RFC 5802, section 5.1, `saslname`).
use Rattle.std.specs.Prelude.{ℕ, ◌==◌, List, [], ◌∷◌, codes, flat_map, if◌then◌else◌}

-- what stands behind an `=` in place of an equals sign
abbrev pub equals_code : List ℕ
equals_code = codes "3D"

-- and of a comma
abbrev pub comma_code : List ℕ
comma_code = codes "2C"

-- `=` is written as `=3D` and `,` as `=2C`
abbrev pub escaped_byte : ℕ → List ℕ
escaped_byte byte = if byte == 0x3D then 0x3D ∷ equals_code else (if byte == 0x2C then 0x3D ∷ comma_code else byte ∷ [])

-- the name, each of its bytes so written
abbrev pub escaped : List ℕ → List ℕ
escaped name = flat_map escaped_byte name
