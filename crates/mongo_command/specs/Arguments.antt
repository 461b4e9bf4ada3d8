-- The fields that a document is built of: the elements that they are written as, how many bytes these take, and why a document
-- of them isn't built.
use Rattle.std.specs.Prelude.{ℕ, ◌-◌, ◌^◌, ◌<◌, min, Option, None, Some, List, [], ◌∷◌, length, flat_map, Contains, ⊤}
use Rattle.std.specs.Borrow.{Bor}
use Rattle.mongo_bson.specs.Framed.{maximum_length}
use Rattle.mongo_bson.specs.Document.{Element, spell}
use Rattle.mongo_bson.specs.Value.{element_of}
use Rattle.mongo_bson.specs.declared.raw_value.RawValue.{RawValue}
use Rattle.mongo_bson.specs.declared.fault.BsonFault.{BsonFault}
use Rattle.mongo_bson.specs.declared.fault.BsonFault.TheVariants.{TooLong, OutOfMemory}

-- the element of a field that is there
abbrev pub field_elements : Option (Bor (List ℕ) × RawValue) → List Element
field_elements None = []
field_elements (Some field) = element_of field.0.now field.1 ∷ []

-- how many bytes elements are written as, at most as many as 64 bits say
abbrev pub size_of_elements : List Element → ℕ
size_of_elements elements = min (length (flat_map spell elements)) (2 ^ 64 - 1)

-- its key has no zero byte
abbrev pub IsNamed : Option (Bor (List ℕ) × RawValue) → Type 0
IsNamed None = ⊤
IsNamed (Some field) = Contains field.0.now 0 → ⊥

-- why a document isn't built: it would be longer than an int32 can say, or memory ran out
abbrev pub TooLongFor : BsonFault → List ℕ → Type 0
TooLongFor TooLong document = maximum_length < length document
TooLongFor OutOfMemory document = ⊤
TooLongFor fault document = ⊥
