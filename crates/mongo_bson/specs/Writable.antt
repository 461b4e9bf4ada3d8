-- The values that can stand in a document.
use Rattle.std.specs.Prelude.{◌≡◌, ℕ, ◌^◌, ◌<◌, ◌≤◌, false, ⊤, FitsSigned, List, [], ◌∷◌, ◌++◌, length}
use Rattle.std.specs.Int.{w32, w64}
use Rattle.std.specs.Str.{IsUtf8}
use Rattle.mongo_bson.specs.Framed.{IsFramed, maximum_length}
use Rattle.mongo_bson.specs.Document.{Element, IsDocument}
use Rattle.mongo_bson.specs.Reading.{HoldsKind}
use Rattle.mongo_bson.specs.Value.{has_variant, element_of}
use Rattle.mongo_bson.specs.declared.raw_value.RawValue.{RawValue}
use Rattle.mongo_bson.specs.declared.raw_value.RawValue.TheVariants.{Double, Str, Document, Array, Binary, ObjectId, Bool as Boolean, DateTime, Null, Int32, Int64, Other}

-- Its numbers are within their types, its text is UTF-8, and its length is one that an int32 counts. A program's values
-- are so but for lengths, and for `Other`, whose bytes may be any.
abbrev pub IsWritable : RawValue → Type 0
IsWritable (Double bits) = bits < 2 ^ 64
IsWritable (Str text) = IsUtf8 text.now × (length text.now < maximum_length)
IsWritable (Document document) = IsFramed document.bytes.now
IsWritable (Array array) = IsFramed array.bytes.now
IsWritable (Binary subtype content) = length content.now ≤ maximum_length
IsWritable (ObjectId id) = length id.0 ≡ 12
IsWritable (Boolean boolean) = ⊤
IsWritable (DateTime milliseconds) = FitsSigned w64 milliseconds
IsWritable Null = ⊤
IsWritable (Int32 number) = FitsSigned w32 number
IsWritable (Int64 number) = FitsSigned w64 number
IsWritable (Other kind content) = HoldsKind kind content.now × (has_variant kind ≡ false)

-- where the value can stand in a document, the document has it under the key as one element more, at its end
abbrev pub AddsValue : List ℕ → List ℕ → List ℕ → RawValue → Type 0
AddsValue old new key value = IsWritable value → (elements : List Element) → IsDocument old elements → IsDocument new (elements ++ element_of key value ∷ [])
