-- Mechanism properties as settings have them: an object, written as a BSON document.
use Rattle.std.specs.Prelude.{◌≡◌, ℕ, ◌+◌, ◌<◌, ◌++◌, ◌==◌, nat_le, if◌then◌else◌, Option, None, Some, option_map, option_and_then, List, [], ◌∷◌, length, ⊤}
use Rattle.std.specs.Fmt.{decimal}
use Rattle.std.specs.List.{list_any}
use Rattle.serde_json.specs.Data.{Data, null, boolean, number, string, array, object, Items, no_items, item, Members, no_members, member}
use Rattle.serde_json.specs.Find.{as_i64, as_object}
use Rattle.mongo_bson.specs.Framed.{element_bytes, enclosed, maximum_length}
use Rattle.mongo_bson.specs.Document.{Element, spell}
use Rattle.mongo_command.specs.Literal.{text_element, array_element, int64_element, document_of}
use Rattle.mongo_settings.specs.Kinds.{◌>>=◌}
use Rattle.mongo_settings.specs.declared.settings.SettingsError.{SettingsError}
use Rattle.mongo_settings.specs.declared.settings.SettingsError.TheVariants.{BadSettings, NotBuilt, OutOfMemory}

-- the document of these elements, where BSON has one as long
abbrev pub document_within : List Element → Option (List ℕ)
document_within elements = if nat_le (length (document_of elements)) maximum_length then Some (document_of elements) else None

-- a text, or a number that an int64 holds
abbrev pub plain_element : List ℕ → Data → Option Element
plain_element key (string text) = Some (text_element key text)
plain_element key (number n) = option_map (int64_element key) (as_i64 n)
plain_element key null = None
plain_element key (boolean _) = None
plain_element key (array _) = None
plain_element key (object _) = None

-- an array's elements, whose keys count from this number on
unfoldable pub item_elements : ℕ → Items → Option (List Element)
item_elements index no_items = Some []
item_elements index (item d others) = do
  element ← plain_element (decimal index) d
  elements ← item_elements (index + 1) others
  Some (element ∷ elements)

-- the document that an array is: its keys are 0, 1 and so on
abbrev pub array_in : Items → Option (List ℕ)
array_in items = option_and_then document_within (item_elements 0 items)

-- a text, a number or an array of these
abbrev pub property_element : List ℕ → Data → Option Element
property_element key (array items) = option_map (array_element key) (array_in items)
property_element key (string text) = plain_element key (string text)
property_element key (number n) = plain_element key (number n)
property_element key null = None
property_element key (boolean _) = None
property_element key (object _) = None

-- an element whose key BSON can hold: there is no zero in it
abbrev pub keyed : List ℕ → Option Element → Option Element
keyed key element = option_and_then (λ e. if list_any (λ b. 0 == b) key then None else Some e) element

-- an object's elements, in the order of its keys
unfoldable pub member_elements : Members → Option (List Element)
member_elements no_members = Some []
member_elements (member key d others) = do
  element ← keyed key (property_element key d)
  elements ← member_elements others
  Some (element ∷ elements)

abbrev pub document_in : Members → Option (List ℕ)
document_in members = option_and_then document_within (member_elements members)

abbrev pub properties_in : Data → Option (List ℕ)
properties_in d = option_and_then document_in (as_object d)

-- ---- a document with one element more at its end

abbrev pub IsPut : Option Element → List ℕ → List ℕ → Type 0
IsPut None old new = ⊥
IsPut (Some element) old new = new ≡ enclosed (element_bytes old ++ spell element)

-- why it isn't put: there is none, or the document would be longer than BSON has them; or memory ran out
abbrev pub CannotPut : SettingsError → Option Element → List ℕ → Type 0
CannotPut OutOfMemory element old = ⊤
CannotPut NotBuilt element old = ⊥
CannotPut BadSettings None old = ⊤
CannotPut BadSettings (Some element) old = maximum_length < length old + length (spell element)
