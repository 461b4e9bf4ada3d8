-- What stands at a key of a document: its first element of that key.
use Rattle.std.specs.Prelude.{◌≡◌, ℕ, ℤ, true, Option, None, Some, List, [], ◌∷◌}
use Rattle.std.specs.Borrow.{Bor}
use Rattle.std.specs.Int.{from_le_bytes, cast_signed, w32}
use Rattle.mongo_bson.specs.Document.{Element, text_of}
use Rattle.mongo_bson.specs.Find.{IsFirstOf, FindsValue}
use Rattle.mongo_bson.specs.Framed.{element_bytes}
use Rattle.mongo_bson.specs.declared.raw_document.RawDocument.{RawDocument}
use Rattle.mongo_bson.specs.declared.raw_value.RawValue.{RawValue}
use Rattle.mongo_bson.specs.declared.raw_value.RawValue.TheVariants.{Str, Document, Binary, Bool as Boolean, Int32}

-- a document
pub record HasInside (document key inner : List ℕ) : Type 0 where
  pub element : Element
  pub first : IsFirstOf (element_bytes document) key element
  pub is_document : element.kind ≡ 0x03
  pub inner_is : inner ≡ element.value

-- a string of this text
pub record HasText (document key text : List ℕ) : Type 0 where
  pub element : Element
  pub first : IsFirstOf (element_bytes document) key element
  pub string : element.kind ≡ 0x02
  pub text_is : text ≡ text_of element.value

-- the boolean true
pub record HasTrue (document key : List ℕ) : Type 0 where
  pub element : Element
  pub first : IsFirstOf (element_bytes document) key element
  pub boolean : element.kind ≡ 0x08
  pub set : element.value ≡ 1 ∷ []

-- the int32 of this number
pub record HasInt32 (document key : List ℕ) (number : ℤ) : Type 0 where
  pub element : Element
  pub first : IsFirstOf (element_bytes document) key element
  pub int32 : element.kind ≡ 0x10
  pub number_is : cast_signed w32 (from_le_bytes w32 element.value) ≡ number

-- the option has what is so, and is none only where nothing is
abbrev pub HoldsIfAny : (List ℕ → Type 0) → Option (Bor (List ℕ)) → Type 0
HoldsIfAny P None = (value : List ℕ) → P value → ⊥
HoldsIfAny P (Some value) = P value.now

-- ---- by the value that was found

-- the value at a key; none where no element has it before the elements end or break off
abbrev pub StandsAt : List ℕ → List ℕ → Option RawValue → Type 0
StandsAt document key None = (element : Element) → IsFirstOf (element_bytes document) key element → ⊥
StandsAt document key (Some value) = FindsValue (element_bytes document) key (Some value)

-- what a string says
abbrev pub string_of : RawValue → Option (Bor (List ℕ))
string_of (Str text) = Some text
string_of other = None

-- the bytes of a binary
abbrev pub binary_bytes : RawValue → Option (Bor (List ℕ))
binary_bytes (Binary subtype bytes) = Some bytes
binary_bytes other = None

abbrev pub inner_of : RawValue → Option RawDocument
inner_of (Document inner) = Some inner
inner_of other = None

abbrev pub IsTrueBoolean : RawValue → Type 0
IsTrueBoolean (Boolean boolean) = boolean ≡ true
IsTrueBoolean other = ⊥

abbrev pub IsInt32 : ℤ → RawValue → Type 0
IsInt32 number (Int32 value) = value ≡ number
IsInt32 number other = ⊥
