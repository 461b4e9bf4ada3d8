-- The keys of a document's elements.
use Rattle.std.specs.Prelude.{◌≡◌, ℕ, List, map}
use Rattle.std.specs.Borrow.{Bor}
use Rattle.std.specs.List.{AllByRecursion, IsDistinct, flat_map}
use Rattle.std.specs.Str.{bytes_eq}
use Rattle.mongo_bson.specs.Document.{Element, IsElement, spell}

-- these elements lie as these bytes
pub record Fill (bytes : List ℕ) (elements : List Element) : Type 0 where
  pub spelled : bytes ≡ flat_map spell elements
  pub each : AllByRecursion IsElement elements

abbrev pub keys_of : List Element → List (List ℕ)
keys_of elements = map (λ e. e.key) elements

-- borrowed texts as their bytes
abbrev pub bytes_of_texts : List (Bor (List ℕ)) → List (List ℕ)
bytes_of_texts texts = map (λ t. t.now) texts

-- no text stands twice
abbrev pub AreApart : List (List ℕ) → Type 0
AreApart texts = IsDistinct bytes_eq texts
