-- What a search for a key finds among the elements that lie as these bytes.
use Rattle.std.specs.Prelude.{◌≡◌, ◌≢◌, ℕ, Option, None, Some, List, [], ◌++◌}
use Rattle.std.specs.List.{AllByRecursion, flat_map}
use Rattle.std.specs.Borrow.{Bor}
use Rattle.mongo_bson.specs.Document.{Element, IsElement, spell}
use Rattle.mongo_bson.specs.Value.{IsValue}
use Rattle.mongo_bson.specs.Reading.{BeginsWithElement}
use Rattle.mongo_bson.specs.Keys.{Fill}
use Rattle.mongo_bson.specs.Steps.{IsBroken}
use Rattle.mongo_bson.specs.declared.raw_value.RawValue.{RawValue}

-- elements of other keys stand before the rest
pub record PassesOver (bytes key rest : List ℕ) : Type 0 where
  pub before : List Element
  pub spelled : bytes ≡ flat_map spell before ++ rest
  pub each : AllByRecursion IsElement before
  pub other : AllByRecursion (λ e. e.key ≢ key) before

-- the first element of that key
pub record IsFirstOf (bytes key : List ℕ) (element : Element) : Type 0 where
  pub rest : List ℕ
  pub after : List ℕ
  pub passed : PassesOver bytes key rest
  pub begins : BeginsWithElement rest element after
  pub key_is : element.key ≡ key

-- elements fill the bytes, and none has that key
pub record LacksKey (bytes key : List ℕ) : Type 0 where
  pub elements : List Element
  pub fill : Fill bytes elements
  pub other : AllByRecursion (λ e. e.key ≢ key) elements

-- before an element of that key the elements break off
pub record BreaksOff (bytes key : List ℕ) : Type 0 where
  pub rest : List ℕ
  pub passed : PassesOver bytes key rest
  pub broken : IsBroken rest

-- what the first element of a key is, or that there is none
abbrev pub FindsValue : List ℕ → List ℕ → Option RawValue → Type 0
FindsValue bytes key None = LacksKey bytes key
FindsValue bytes key (Some value) = (e : Element) × IsFirstOf bytes key e × IsValue e.kind e.value value

abbrev pub FindsBytes : List ℕ → List ℕ → Option (ℕ × Bor (List ℕ)) → Type 0
FindsBytes bytes key None = LacksKey bytes key
FindsBytes bytes key (Some found) = IsFirstOf bytes key (record { kind = found.0; key = key; value = found.1.now })

-- the first element, whatever its key
abbrev pub BeginsWithKey : List ℕ → List ℕ → Type 0
BeginsWithKey bytes key = (e : Element) × (rest : List ℕ) × BeginsWithElement bytes e rest × (e.key ≡ key)

abbrev pub FirstKey : List ℕ → Option (Bor (List ℕ)) → Type 0
FirstKey bytes None = bytes ≡ []
FirstKey bytes (Some key) = BeginsWithKey bytes key.now
