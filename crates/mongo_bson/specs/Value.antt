-- What the values of a document mean, and the bytes that a value is written as.
use Rattle.std.specs.Prelude.{◌≡◌, ℕ, ◌+◌, ◌==◌, ◌||◌, Bool, false, List, [], ◌∷◌, ◌++◌, length, drop, slice_index}
use Rattle.std.specs.Int.{to_le_bytes, from_le_bytes, from_bool, cast_signed, cast_unsigned, w32, w64}
use Rattle.mongo_bson.specs.Document.{Element, text_of}
use Rattle.mongo_bson.specs.declared.raw_value.RawValue.{RawValue}
use Rattle.mongo_bson.specs.declared.raw_value.RawValue.TheVariants.{Double, Str, Document, Array, Binary, ObjectId, Bool as Boolean, DateTime, Null, Int32, Int64, Other}

-- the kinds that have a variant of their own
abbrev pub has_variant : ℕ → Bool
has_variant kind = kind == 0x01 || kind == 0x02 || kind == 0x03 || kind == 0x04 || kind == 0x05 || kind == 0x07 || kind == 0x08 || kind == 0x09 || kind == 0x0A || kind == 0x10 || kind == 0x12

-- a value's kind byte and bytes mean this
abbrev pub IsValue : ℕ → List ℕ → RawValue → Type 0
IsValue kind bytes (Double bits) = (kind ≡ 0x01) × (bits ≡ from_le_bytes w64 bytes)
IsValue kind bytes (Str text) = (kind ≡ 0x02) × (text.now ≡ text_of bytes)
IsValue kind bytes (Document document) = (kind ≡ 0x03) × (document.bytes.now ≡ bytes)
IsValue kind bytes (Array array) = (kind ≡ 0x04) × (array.bytes.now ≡ bytes)
IsValue kind bytes (Binary subtype content) = (kind ≡ 0x05) × (subtype ≡ slice_index bytes 4) × (content.now ≡ drop 5 bytes)
IsValue kind bytes (ObjectId id) = (kind ≡ 0x07) × (id.0 ≡ bytes)
IsValue kind bytes (Boolean boolean) = (kind ≡ 0x08) × (bytes ≡ from_bool boolean ∷ [])
IsValue kind bytes (DateTime milliseconds) = (kind ≡ 0x09) × (milliseconds ≡ cast_signed w64 (from_le_bytes w64 bytes))
IsValue kind bytes Null = kind ≡ 0x0A
IsValue kind bytes (Int32 number) = (kind ≡ 0x10) × (number ≡ cast_signed w32 (from_le_bytes w32 bytes))
IsValue kind bytes (Int64 number) = (kind ≡ 0x12) × (number ≡ cast_signed w64 (from_le_bytes w64 bytes))
IsValue kind bytes (Other other content) = (other ≡ kind) × (content.now ≡ bytes) × (has_variant kind ≡ false)

-- the kind byte that a value is written with
abbrev pub kind_of : RawValue → ℕ
kind_of (Double bits) = 0x01
kind_of (Str text) = 0x02
kind_of (Document document) = 0x03
kind_of (Array array) = 0x04
kind_of (Binary subtype content) = 0x05
kind_of (ObjectId id) = 0x07
kind_of (Boolean boolean) = 0x08
kind_of (DateTime milliseconds) = 0x09
kind_of Null = 0x0A
kind_of (Int32 number) = 0x10
kind_of (Int64 number) = 0x12
kind_of (Other kind content) = kind

-- the bytes that a value is written as
abbrev pub bytes_of : RawValue → List ℕ
bytes_of (Double bits) = to_le_bytes w64 bits
bytes_of (Str text) = to_le_bytes w32 (length text.now + 1) ++ (text.now ++ 0 ∷ [])
bytes_of (Document document) = document.bytes.now
bytes_of (Array array) = array.bytes.now
bytes_of (Binary subtype content) = to_le_bytes w32 (length content.now) ++ (subtype ∷ content.now)
bytes_of (ObjectId id) = id.0
bytes_of (Boolean boolean) = from_bool boolean ∷ []
bytes_of (DateTime milliseconds) = to_le_bytes w64 (cast_unsigned w64 milliseconds)
bytes_of Null = []
bytes_of (Int32 number) = to_le_bytes w32 (cast_unsigned w32 number)
bytes_of (Int64 number) = to_le_bytes w64 (cast_unsigned w64 number)
bytes_of (Other kind content) = content.now

-- the element that a key and a value are written as
abbrev pub element_of : List ℕ → RawValue → Element
element_of key value = record { kind = kind_of value; key = key; value = bytes_of value }
