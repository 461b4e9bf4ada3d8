-- The whole number that a value holds: an int32, an int64, or a double that stands for a whole number.
use Rattle.std.specs.Prelude.{ℕ, ℤ, ◌==◌, Option, None, Some, List, if◌then◌else◌, int_le, pos, unsigned_abs}
use Rattle.std.specs.Int.{from_le_bytes, cast_signed, w32, w64}
use Rattle.mongo_num.specs.DoubleBits.{int_of, u64_of}
use Rattle.mongo_bson.specs.declared.raw_value.RawValue.{RawValue}
use Rattle.mongo_bson.specs.declared.raw_value.RawValue.TheVariants.{Double, Int32, Int64}

-- by its kind byte and its bytes
abbrev pub int_of_kind : ℕ → List ℕ → Option ℤ
int_of_kind kind bytes =
    if kind == 0x10 then Some (cast_signed w32 (from_le_bytes w32 bytes))
    else if kind == 0x12 then Some (cast_signed w64 (from_le_bytes w64 bytes))
    else if kind == 0x01 then int_of (from_le_bytes w64 bytes)
    else None

-- by what it means
abbrev pub int_of_value : RawValue → Option ℤ
int_of_value (Int32 number) = Some number
int_of_value (Int64 number) = Some number
int_of_value (Double bits) = int_of bits
int_of_value other = None

-- a whole number that isn't negative
abbrev pub unsigned_of : ℤ → Option ℕ
unsigned_of number = if int_le (pos 0) number then Some (unsigned_abs number) else None

-- the same as an unsigned number
abbrev pub u64_of_kind : ℕ → List ℕ → Option ℕ
u64_of_kind kind bytes =
    if kind == 0x10 then unsigned_of (cast_signed w32 (from_le_bytes w32 bytes))
    else if kind == 0x12 then unsigned_of (cast_signed w64 (from_le_bytes w64 bytes))
    else if kind == 0x01 then u64_of (from_le_bytes w64 bytes)
    else None

abbrev pub u64_of_value : RawValue → Option ℕ
u64_of_value (Int32 number) = unsigned_of number
u64_of_value (Int64 number) = unsigned_of number
u64_of_value (Double bits) = u64_of bits
u64_of_value other = None
