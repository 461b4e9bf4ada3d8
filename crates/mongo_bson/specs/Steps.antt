-- What one step of an iteration over a document's elements does. The state is the bytes that are left.
use Rattle.std.specs.Prelude.{◌≡◌, ◌≢◌, Option, None, Some, Result, Ok, Err, List, [], ◌++◌, ℕ}
use Rattle.std.specs.Borrow.{Bor}
use Rattle.mongo_bson.specs.Document.{Element, IsElement, spell}
use Rattle.mongo_bson.specs.Reading.{NoElementAtFront}
use Rattle.mongo_bson.specs.Value.{IsValue}
use Rattle.mongo_bson.specs.declared.raw_value.RawValue.{RawValue}
use Rattle.mongo_bson.specs.declared.iter.Iter.{Iter}
use Rattle.mongo_bson.specs.declared.fault.BsonFault.{BsonFault}
use Rattle.mongo_bson.specs.declared.fault.BsonFault.TheVariants.{Malformed}

-- the element at the front was taken
pub record TakesElement (old : List ℕ) (key : List ℕ) (value : RawValue) (new : List ℕ) : Type 0 where
  pub element : Element
  pub is_element : IsElement element
  pub key_is : key ≡ element.key
  pub value_is : IsValue element.kind element.value value
  pub rest : old ≡ spell element ++ new

-- something is left, and no element stands at its front
pub record IsBroken (bytes : List ℕ) : Type 0 where
  pub left : bytes ≢ []
  pub none : NoElementAtFront bytes

-- one step: the end, an element, or the fault that ends the iteration
abbrev pub NextElement : Iter → Option (Result (Bor (List ℕ) × RawValue) BsonFault) → Iter → Type 0
NextElement s None t = (s.rest.now ≡ []) × (t.rest.now ≡ [])
NextElement s (Some (Ok p)) t = TakesElement s.rest.now p.0.now p.1 t.rest.now
NextElement s (Some (Err Malformed)) t = IsBroken s.rest.now × (t.rest.now ≡ [])
NextElement s (Some (Err other)) t = ⊥
