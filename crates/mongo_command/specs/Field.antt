-- One field of a document: the first element of its key, and what it reads as. A table of fields says for each key which
-- reading it has, and whether it has to be there.
use Rattle.std.specs.Prelude.{◌≡◌, ◌≢◌, ℕ, ℤ, pos, ◌==◌, Bool, Option, None, Some, List, [], ◌∷◌, map, unwrap_or, bytes_eq, FitsSigned, if◌then◌else◌, ⊤}
use Rattle.std.specs.List.{AllByRecursion}
use Rattle.std.specs.Int.{from_le_bytes, from_bool, cast_signed, w32, w64}
use Rattle.mongo_bson.specs.Document.{Element, IsDocument, IsWellFormed, text_of}
use Rattle.mongo_bson.specs.declared.raw_value.ObjectId.{ObjectId}

-- the first element of a key
abbrev pub field_of : List ℕ → List Element → Option Element
field_of key [] = None
field_of key (e ∷ es) = if bytes_eq e.key key then Some e else field_of key es

-- elements fill the document
abbrev pub IsFilled : List ℕ → Type 0
IsFilled document = ((elements : List Element) → IsDocument document elements → ⊥) → ⊥

-- a well-formed document whose elements are a table's
pub record HoldsTable {A : Type 0} (Table : List Element → A → Type 0) (document : List ℕ) (value : A) : Type 0 where
  pub elements : List Element
  pub well_formed : IsWellFormed document elements
  pub table : Table elements value

-- ---- whether it is there

-- a field that has to be there
unfoldable pub Required : {A : Type 0} → (Element → A → Type 0) → Option Element → A → Type 0
Required Reads None value = ⊥
Required Reads (Some e) value = Reads e value

-- a field that may be absent; null counts as absent, whatever the reading
unfoldable pub Optional : {A : Type 0} → (Element → A → Type 0) → Option Element → Option A → Type 0
Optional Reads None None = ⊤
Optional Reads None (Some value) = ⊥
Optional Reads (Some e) None = e.kind ≡ 0x0A
Optional Reads (Some e) (Some value) = (e.kind ≢ 0x0A) × Reads e value

-- a list that is empty where the field is absent; null doesn't count as absent
unfoldable pub OrEmpty : {A : Type 0} → (Element → List A → Type 0) → Option Element → List A → Type 0
OrEmpty Reads None list = list ≡ []
OrEmpty Reads (Some e) list = Reads e list

-- a list that is empty where the field is absent or null
unfoldable pub OptionalOrEmpty : {A : Type 0} → (Element → List A → Type 0) → Option Element → List A → Type 0
OptionalOrEmpty {A} Reads found list = (said : Option (List A)) × Optional Reads found said × (list ≡ unwrap_or said [])

-- three optional fields, by their keys
abbrev pub OptionalThree : {A B C : Type 0} → (Element → A → Type 0) → (Element → B → Type 0) → (Element → C → Type 0) → List ℕ → List ℕ → List ℕ → List Element → Option A × Option B × Option C → Type 0
OptionalThree ReadsFirst ReadsSecond ReadsThird first second third elements values =
    Optional ReadsFirst (field_of first elements) values.0 × Optional ReadsSecond (field_of second elements) values.1 × Optional ReadsThird (field_of third elements) values.2

-- ---- what an element reads as, kind by kind

-- the number of an int32 or int64
abbrev pub whole_number : Element → Option ℤ
whole_number e = if e.kind == 0x10 then Some (cast_signed w32 (from_le_bytes w32 e.value)) else if e.kind == 0x12 then Some (cast_signed w64 (from_le_bytes w64 e.value)) else None

abbrev pub ReadsBoolean : Element → Bool → Type 0
ReadsBoolean e boolean = (e.kind ≡ 0x08) × (e.value ≡ from_bool boolean ∷ [])

abbrev pub ReadsText : Element → List ℕ → Type 0
ReadsText e text = (e.kind ≡ 0x02) × (text ≡ text_of e.value)

abbrev pub ReadsInt32 : Element → ℤ → Type 0
ReadsInt32 e number = (whole_number e ≡ Some number) × FitsSigned w32 number

abbrev pub ReadsInt64 : Element → ℤ → Type 0
ReadsInt64 e number = whole_number e ≡ Some number

-- a whole number that isn't negative
abbrev pub ReadsUnsigned : Element → ℕ → Type 0
ReadsUnsigned e number = whole_number e ≡ Some (pos number)

abbrev pub ReadsId : Element → ObjectId → Type 0
ReadsId e id = (e.kind ≡ 0x07) × (id.0 ≡ e.value)

abbrev pub ReadsDocument : Element → List ℕ → Type 0
ReadsDocument e document = (e.kind ≡ 0x03) × (document ≡ e.value)

-- a document of texts alone: what each of its elements says, in their order
pub record HoldsTexts {A : Type 0} (says : Element → A) (document : List ℕ) (list : List A) : Type 0 where
  pub items : List Element
  pub filled : IsDocument document items
  pub each : AllByRecursion (λ item. item.kind ≡ 0x02) items
  pub list_is : list ≡ map says items

-- an array of texts
abbrev pub ReadsTexts : Element → List (List ℕ) → Type 0
ReadsTexts e texts = (e.kind ≡ 0x04) × HoldsTexts (λ item. text_of item.value) e.value texts
