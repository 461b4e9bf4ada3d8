-- What stands at the front of bytes: the words of the readers.
use Rattle.std.specs.Prelude.{◌≡◌, ◌≢◌, ℕ, ◌+◌, ◌<◌, ◌≤◌, Some, List, ◌∷◌, ◌++◌, length, take, slice_index}
use Rattle.std.specs.List.{All}
use Rattle.std.specs.Int.{from_le_bytes, w32}
use Rattle.mongo_bson.specs.Framed.{IsFramed, maximum_length}
use Rattle.mongo_bson.specs.declared.element.RawElement.{RawElement}
use Rattle.mongo_bson.specs.Document.{Element, IsElement, IsCstring, IsString, IsCodeWithScope, IsInside, Shape, shape_of, Holds, spell}

-- the first n bytes meet P
pub record IsAtFront (P : List ℕ → Type 0) (bytes : List ℕ) (n : ℕ) : Type 0 where
  pub within : n ≤ length bytes
  pub holds : P (take n bytes)

-- no bytes that meet P stand at the front
abbrev pub NoneAtFront : (List ℕ → Type 0) → List ℕ → Type 0
NoneAtFront P bytes = (front rest : List ℕ) → P front → bytes ≡ front ++ rest → ⊥

-- the first zero stands at n
pub record IsFirstZero (bytes : List ℕ) (n : ℕ) : Type 0 where
  pub within : n < length bytes
  pub zero : slice_index bytes n ≡ 0
  pub before : All (λ b. b ≢ 0) (take n bytes)

-- a cstring, the zero that ends it, and the rest
pub record BeginsWithCstring (bytes text rest : List ℕ) : Type 0 where
  pub is_cstring : IsCstring text
  pub spelled : bytes ≡ text ++ 0 ∷ rest

abbrev pub HasNoCstring : List ℕ → Type 0
HasNoCstring bytes = (text rest : List ℕ) → IsCstring text → bytes ≡ text ++ 0 ∷ rest → ⊥

-- a document and the rest
pub record BeginsWithDocument (bytes document rest : List ℕ) : Type 0 where
  pub framed : IsFramed document
  pub spelled : bytes ≡ document ++ rest

abbrev pub HasNoDocument : List ℕ → Type 0
HasNoDocument bytes = NoneAtFront IsFramed bytes

-- the bytes are a value of this kind
abbrev pub HoldsKind : ℕ → List ℕ → Type 0
HoldsKind kind v = (shape : Shape) × (shape_of kind ≡ Some shape) × Holds shape v

-- the element that a reader read
abbrev pub element_read : RawElement → Element
element_read e = record { kind = e.kind; key = e.key.now; value = e.value.now }

-- an element and the rest
pub record BeginsWithElement (bytes : List ℕ) (e : Element) (rest : List ℕ) : Type 0 where
  pub is_element : IsElement e
  pub spelled : bytes ≡ spell e ++ rest

abbrev pub NoElementAtFront : List ℕ → Type 0
NoElementAtFront bytes = (e : Element) (rest : List ℕ) → IsElement e → bytes ≡ spell e ++ rest → ⊥

-- The int32 at the front and so many more count bytes that are there. They are at least five, as those of every value
-- that has a length.
pub record IsCounted (bytes : List ℕ) (more n : ℕ) : Type 0 where
  pub least : 5 ≤ n
  pub most : from_le_bytes w32 bytes ≤ maximum_length
  pub count : n ≡ from_le_bytes w32 bytes + more
  pub within : n ≤ length bytes

abbrev pub IsNotCounted : List ℕ → ℕ → Type 0
IsNotCounted bytes more = from_le_bytes w32 bytes ≤ maximum_length → 5 ≤ from_le_bytes w32 bytes + more → from_le_bytes w32 bytes + more ≤ length bytes → ⊥

-- a string and a document
abbrev pub IsCodeAndScope : List ℕ → Type 0
IsCodeAndScope bytes = (code scope : List ℕ) × (bytes ≡ code ++ scope) × IsString code × IsFramed scope

-- the scope of a code with scope
abbrev pub IsScopeOf : List ℕ → List ℕ → Type 0
IsScopeOf v scope = (code : List ℕ) × IsCodeWithScope v code scope

-- the one document inside an element
pub record IsOnlyInside (e : Element) (d : List ℕ) : Type 0 where
  pub inside : IsInside e d
  pub only : (other : List ℕ) → IsInside e other → other ≡ d
  pub framed : IsFramed d

abbrev pub HoldsNoDocument : Element → Type 0
HoldsNoDocument e = (d : List ℕ) → IsInside e d → ⊥
