-- The years 0 to 9998, in milliseconds since 1970, UTC.
use Rattle.std.specs.Prelude.{ℤ, pos, negsuc}

-- the first millisecond of the year 0
abbrev pub earliest : ℤ
earliest = negsuc 62167219199999

-- the last millisecond of the year 9998
abbrev pub latest : ℤ
latest = pos 253370764799999
