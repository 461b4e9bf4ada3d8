-- Documents of BSON 1.1 as lists of elements.
use Rattle.std.specs.Prelude.{◌≡◌, ◌≢◌, ℕ, zero, suc, ◌+◌, ◌-◌, ◌≤◌, ◌==◌, ◌⊎◌, Option, None, Some, List, [], ◌∷◌, ◌++◌, length, take, drop, slice_index, flat_map, IsUtf8, if◌then◌else◌, ⊤}
use Rattle.std.specs.List.{AllByRecursion}
use Rattle.std.specs.Int.{from_le_bytes, w32}
use Rattle.mongo_bson.specs.Framed.{IsFramed, element_bytes, maximum_length}

-- an element: its kind byte, its key, and the bytes of its value
pub record Element : Type 0 where
  pub kind : ℕ
  pub key : List ℕ
  pub value : List ℕ

-- the bytes of an element
abbrev pub spell : Element → List ℕ
spell e = e.kind ∷ (e.key ++ 0 ∷ e.value)

-- How the bytes of a value lie.
pub data Shape : Type 0 where
  fixed : ℕ → Shape
  boolean : Shape
  string : Shape
  document : Shape
  binary : Shape
  regular_expression : Shape
  db_pointer : Shape
  code_with_scope : Shape

-- the table of kinds
abbrev pub shape_of : ℕ → Option Shape
shape_of kind =
    if kind == 0x01 then Some (fixed 8)
    else if kind == 0x02 then Some string
    else if kind == 0x03 then Some document
    else if kind == 0x04 then Some document
    else if kind == 0x05 then Some binary
    else if kind == 0x06 then Some (fixed 0)
    else if kind == 0x07 then Some (fixed 12)
    else if kind == 0x08 then Some boolean
    else if kind == 0x09 then Some (fixed 8)
    else if kind == 0x0A then Some (fixed 0)
    else if kind == 0x0B then Some regular_expression
    else if kind == 0x0C then Some db_pointer
    else if kind == 0x0D then Some string
    else if kind == 0x0E then Some string
    else if kind == 0x0F then Some code_with_scope
    else if kind == 0x10 then Some (fixed 4)
    else if kind == 0x11 then Some (fixed 8)
    else if kind == 0x12 then Some (fixed 8)
    else if kind == 0x13 then Some (fixed 16)
    else if kind == 0x7F then Some (fixed 0)
    else if kind == 0xFF then Some (fixed 0)
    else None

-- a cstring without the zero that ends it: UTF-8 without a zero
pub record IsCstring (text : List ℕ) : Type 0 where
  pub utf8 : IsUtf8 text
  pub without_zero : AllByRecursion (λ b. b ≢ 0) text

-- what stands between a string's length and its final zero
abbrev pub text_of : List ℕ → List ℕ
text_of v = take (length v - 5) (drop 4 v)

-- an int32 that counts the text and its zero, the text, a zero
pub record IsString (v : List ℕ) : Type 0 where
  pub least : 5 ≤ length v
  pub most : from_le_bytes w32 v ≤ maximum_length
  pub counted : from_le_bytes w32 v + 4 ≡ length v
  pub ended : slice_index v (length v - 1) ≡ 0
  pub utf8 : IsUtf8 (text_of v)

-- an int32 that counts the bytes after it and the subtype, the subtype, the bytes
pub record IsBinary (v : List ℕ) : Type 0 where
  pub least : 5 ≤ length v
  pub most : from_le_bytes w32 v ≤ maximum_length
  pub counted : from_le_bytes w32 v + 5 ≡ length v

-- a regular expression: two cstrings, its pattern and its options
pub record IsRegularExpression (v pattern options : List ℕ) : Type 0 where
  pub spelled : v ≡ pattern ++ (0 ∷ (options ++ 0 ∷ []))
  pub pattern_cstring : IsCstring pattern
  pub options_cstring : IsCstring options

-- a DBPointer: a string and an object id
pub record IsDbPointer (v name id : List ℕ) : Type 0 where
  pub spelled : v ≡ name ++ id
  pub string : IsString name
  pub twelve : length id ≡ 12

-- an int32 that counts the whole value, a string, a document
pub record IsCodeWithScope (v code scope : List ℕ) : Type 0 where
  pub most : length v ≤ maximum_length
  pub counted : from_le_bytes w32 v ≡ length v
  pub spelled : drop 4 v ≡ code ++ scope
  pub string : IsString code
  pub document : IsFramed scope

-- the bytes of a value have this shape
abbrev pub Holds : Shape → List ℕ → Type 0
Holds (fixed n) v = length v ≡ n
Holds boolean v = (v ≡ 0 ∷ []) ⊎ (v ≡ 1 ∷ [])
Holds string v = IsString v
Holds document v = IsFramed v
Holds binary v = IsBinary v
Holds regular_expression v = (pattern options : List ℕ) × IsRegularExpression v pattern options
Holds db_pointer v = (name id : List ℕ) × IsDbPointer v name id
Holds code_with_scope v = (code scope : List ℕ) × IsCodeWithScope v code scope

pub record IsElement (e : Element) : Type 0 where
  pub shape : Shape
  pub known : shape_of e.kind ≡ Some shape
  pub key : IsCstring e.key
  pub value : Holds shape e.value

-- b is the document of these elements, which fill it exactly
pub record IsDocument (b : List ℕ) (elements : List Element) : Type 0 where
  pub framed : IsFramed b
  pub filled : element_bytes b ≡ flat_map spell elements
  pub each : AllByRecursion IsElement elements

-- the document has one element more, at its end
abbrev pub AddsElement : List ℕ → List ℕ → Element → Type 0
AddsElement old new e = (elements : List Element) → IsDocument old elements → IsElement e → IsDocument new (elements ++ e ∷ [])

-- d is the document or array that a value is, or the scope that it holds
abbrev pub IsInside : Element → List ℕ → Type 0
IsInside e d = ((shape_of e.kind ≡ Some document) × (d ≡ e.value)) ⊎ ((e.kind ≡ 0x0F) × (code : List ℕ) × IsCodeWithScope e.value code d)

-- each value and each document inside is a document's, down to so many levels, of which b is the first
unfoldable pub IsReadable : ℕ → List ℕ → Type 0
IsReadable zero b = ⊥
IsReadable (suc levels) b = (elements : List Element) × IsDocument b elements × AllByRecursion (λ e. (d : List ℕ) → IsInside e d → IsReadable levels d) elements

-- the maximum depth of a readable document
abbrev pub maximum_depth : ℕ
maximum_depth = 100

-- no key stands twice
abbrev pub HasDistinctKeys : List Element → Type 0
HasDistinctKeys [] = ⊤
HasDistinctKeys (e ∷ es) = AllByRecursion (λ later. later.key ≢ e.key) es × HasDistinctKeys es

-- readable, and no top-level key stands twice
pub record IsWellFormed (b : List ℕ) (elements : List Element) : Type 0 where
  pub document : IsDocument b elements
  pub readable : IsReadable maximum_depth b
  pub distinct : HasDistinctKeys elements
