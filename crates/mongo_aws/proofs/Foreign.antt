-- A walk over elements that looks for one that a message doesn't have.
use Rattle.std.proofs.Common.{◌≡◌, ℕ, ◌||◌, Bool, true, false, not, List, [], ◌∷◌, ◌++◌, refl, sym, ap, ◌∙◌}
use Rattle.std.specs.List.{flat_map}
use Rattle.mongo_bson.specs.Framed.{element_bytes}
use Rattle.mongo_bson.specs.Document.{Element, IsDocument, spell}
use Rattle.mongo_bson.specs.Keys.{Fill}
use Rattle.mongo_bson.specs.Steps.{TakesElement, IsBroken}
use Rattle.mongo_bson.specs.declared.raw_value.RawValue.{RawValue}
use Rattle.mongo_bson.proofs.Filled.{fill_rest, no_fill}
use Rattle.mongo_aws.specs.ServerMessage.{is_message_key, has_foreign_element}

-- elements are left of a document's, with a foreign one where the document has one
pub record IsLeft (rest : List ℕ) (all : List Element) : Type 0 where
  pub more : List Element
  pub fill : Fill rest more
  pub same : has_foreign_element all ≡ has_foreign_element more

pub left_all : (document rest : List ℕ) → rest ≡ element_bytes document → (all : List Element) → IsDocument document all → IsLeft rest all
left_all document rest same all is = record { more = all; fill = record { spelled = same ∙ is.filled; each = is.each }; same = refl }

known_first : (known : Bool) (later : Bool) → known ≡ true → (not known || later) ≡ later
known_first known later is = ap (λ k. not k || later) is

foreign_first : (known : Bool) (later : Bool) → known ≡ false → (not known || later) ≡ true
foreign_first known later is = ap (λ k. not k || later) is

next_of : (rest after key : List ℕ) (value : RawValue) (all : List Element) → (left : IsLeft rest all) → (takes : TakesElement rest key value after) → (fs : List Element) × (left.more ≡ takes.element ∷ fs) × Fill after fs
next_of rest after key value all left takes = fill_rest rest after takes.element left.more (record { is_element = takes.is_element; spelled = takes.rest }) left.fill

-- an element of a message is passed
pub left_known : (rest after key : List ℕ) (value : RawValue) (all : List Element) → IsLeft rest all → TakesElement rest key value after → is_message_key key ≡ true → IsLeft after all
left_known rest after key value all left takes known =
    let next = next_of rest after key value all left takes in
    record {
      more = next.0;
      fill = next.2;
      same = left.same ∙ ap has_foreign_element next.1 ∙ known_first (is_message_key takes.element.key) (has_foreign_element next.0) (ap is_message_key (sym takes.key_is) ∙ known);
    }

-- one that it doesn't have decides
pub left_foreign : (rest after key : List ℕ) (value : RawValue) (all : List Element) → IsLeft rest all → TakesElement rest key value after → is_message_key key ≡ false → has_foreign_element all ≡ true
left_foreign rest after key value all left takes foreign =
    let next = next_of rest after key value all left takes in
    left.same ∙ ap has_foreign_element next.1 ∙ foreign_first (is_message_key takes.element.key) (has_foreign_element next.0) (ap is_message_key (sym takes.key_is) ∙ foreign)

none_more : (rest : List ℕ) (more : List Element) → rest ≡ [] → Fill rest more → has_foreign_element more ≡ false
none_more rest [] over fill = refl
none_more rest (e ∷ es) over fill = let none : [] ≡ spell e ++ flat_map spell es = sym over ∙ fill.spelled in cc

-- none was found
pub left_none : (rest : List ℕ) (all : List Element) → rest ≡ [] → IsLeft rest all → has_foreign_element all ≡ false
left_none rest all over left = left.same ∙ none_more rest left.more over left.fill

-- elements that are left don't break off
pub left_unbroken : (rest : List ℕ) (all : List Element) → IsBroken rest → IsLeft rest all → ⊥
left_unbroken rest all broken left = no_fill rest left.more broken.none broken.left left.fill
