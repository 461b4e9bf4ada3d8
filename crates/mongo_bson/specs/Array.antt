-- Arrays, BSON 1.1: documents whose keys are `0`, `1` and so on.
use Rattle.std.specs.Prelude.{◌≡◌, ℕ, ◌+◌, List, [], ◌∷◌, ◌++◌, length, map}
use Rattle.std.specs.Fmt.{decimal}
use Rattle.std.specs.List.{flat_map}
use Rattle.mongo_bson.specs.Document.{Element, spell}
use Rattle.mongo_bson.specs.Framed.{enclosed}

-- a value by its kind and its bytes
pub record Entry : Type 0 where
  pub kind : ℕ
  pub value : List ℕ

-- the elements that hold these values, from this number on
abbrev pub numbered : ℕ → List Entry → List Element
numbered i [] = []
numbered i (v ∷ vs) = record { kind = v.kind; key = decimal i; value = v.value } ∷ numbered (i + 1) vs

-- the array of these values
abbrev pub array_of : List Entry → List ℕ
array_of values = enclosed (flat_map spell (numbered 0 values))

-- the document is the array of these values, so many
pub record IsArrayOf (document : List ℕ) (count : ℕ) (values : List Entry) : Type 0 where
  pub spelled : document ≡ array_of values
  pub counted : count ≡ length values

-- the document is the array of some values, so many
abbrev pub IsArray : List ℕ → ℕ → Type 0
IsArray document count = ∥ ((values : List Entry) × IsArrayOf document count values) ∥₁

-- documents as values of an array
abbrev pub document_entries : List (List ℕ) → List Entry
document_entries documents = map (λ d. record { kind = 0x03; value = d }) documents

-- how many bytes one document of this length adds to an array of so many values
abbrev pub GrowsBy : ℕ → ℕ → ℕ → Type 0
GrowsBy count size growth =
    (values : List Entry) (document : List ℕ) → length values ≡ count → length document ≡ size → length (array_of (values ++ document_entries (document ∷ []))) ≡ length (array_of values) + growth
