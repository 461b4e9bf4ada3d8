-- What a search by key finds is the field of that key in the document's list of elements.
use Rattle.std.proofs.Common.{◌≡◌, ◌≢◌, ℕ, Bool, true, false, Option, None, Some, List, [], ◌∷◌, ◌++◌, bytes_eq, if◌then◌else◌, refl, sym, ap, ◌∙◌, subst}
use Rattle.std.specs.Borrow.{Bor}
use Rattle.std.specs.List.{AllByRecursion}
use Rattle.std.specs.Bool.{Decides}
use Rattle.std.proofs.lemmas.Slice.Eq.{bytes_eq-Decides}
use Rattle.mongo_bson.specs.Framed.{element_bytes}
use Rattle.mongo_bson.specs.Document.{Element, IsDocument, IsReadable, maximum_depth}
use Rattle.mongo_bson.specs.Find.{IsFirstOf, LacksKey, BreaksOff, FindsValue, FindsBytes}
use Rattle.mongo_bson.specs.declared.raw_value.RawValue.{RawValue}
use Rattle.mongo_bson.proofs.Found.{first_in_document, none_in_document, broken_no_document}
use Rattle.mongo_command.specs.Field.{field_of}
use Rattle.mongo_command.specs.Fields.{IsValueOf}

same_bytes : (a b : List ℕ) → a ≡ b → bytes_eq a b ≡ true
same_bytes a b same = (bytes_eq-Decides a b).1 same

denied : (b : Bool) (P : Type 0) → Decides b P → (P → ⊥) → b ≡ false
denied false P decides none = refl
denied true P decides none = absurd (none (decides.0 refl))

other_bytes : (a b : List ℕ) → a ≢ b → bytes_eq a b ≡ false
other_bytes a b other = denied (bytes_eq a b) (a ≡ b) (bytes_eq-Decides a b) other

chosen : (here : Bool) (e : Element) (later : Option Element) → here ≡ true → (if here then Some e else later) ≡ Some e
chosen here e later is = ap (λ b. if b then Some e else later) is

passed : (here : Bool) (e : Element) (later : Option Element) → here ≡ false → (if here then Some e else later) ≡ later
passed here e later is = ap (λ b. if b then Some e else later) is

field_there : (key : List ℕ) (before after : List Element) (e : Element) → AllByRecursion (λ x. x.key ≢ key) before → e.key ≡ key → field_of key (before ++ e ∷ after) ≡ Some e
field_there key [] after e other is = chosen (bytes_eq e.key key) e (field_of key after) (same_bytes e.key key is)
field_there key (x ∷ xs) after e other is = passed (bytes_eq x.key key) x (field_of key (xs ++ e ∷ after)) (other_bytes x.key key other.0) ∙ field_there key xs after e other.1 is

field_absent : (key : List ℕ) (elements : List Element) → AllByRecursion (λ x. x.key ≢ key) elements → field_of key elements ≡ None
field_absent key [] other = refl
field_absent key (x ∷ xs) other = passed (bytes_eq x.key key) x (field_of key xs) (other_bytes x.key key other.0) ∙ field_absent key xs other.1

pub field_first : (b key : List ℕ) (elements : List Element) (e : Element) → IsDocument b elements → IsFirstOf (element_bytes b) key e → field_of key elements ≡ Some e
field_first b key elements e is first =
    let stands = first_in_document b key e elements is first in
    ap (field_of key) stands.place ∙ field_there key stands.before stands.after e stands.other first.key_is

pub field_none : (b key : List ℕ) (elements : List Element) → IsDocument b elements → LacksKey (element_bytes b) key → field_of key elements ≡ None
field_none b key elements is none = field_absent key elements (none_in_document b key elements is none)

-- a value that is found by key is the field's
pub value_found : (b key : List ℕ) (elements : List Element) (found : Option RawValue) → IsDocument b elements → FindsValue (element_bytes b) key found → IsValueOf (field_of key elements) found
value_found b key elements None is none = subst (λ f. IsValueOf f None) (sym (field_none b key elements is none)) tt
value_found b key elements (Some value) is first = subst (λ f. IsValueOf f (Some value)) (sym (field_first b key elements first.0 is first.1)) first.2

-- bytes that are found by key are the field's, or there is none
pub bytes_found : (b key : List ℕ) (elements : List Element) (found : ℕ × Bor (List ℕ)) → IsDocument b elements → FindsBytes (element_bytes b) key (Some found) → field_of key elements ≡ Some (record { kind = found.0; key = key; value = found.1.now })
bytes_found b key elements found is first = field_first b key elements (record { kind = found.0; key = key; value = found.1.now }) is first

pub bytes_none : (b key : List ℕ) (elements : List Element) → IsDocument b elements → FindsBytes (element_bytes b) key None → field_of key elements ≡ None
bytes_none b key elements is none = field_none b key elements is none

-- a readable document has elements, in which no search breaks off
pub elements_of : (b : List ℕ) → IsReadable maximum_depth b → (elements : List Element) × IsDocument b elements
unfolding IsReadable
elements_of b readable = (readable.0, readable.1)

pub readable_unbroken : (b key : List ℕ) → IsReadable maximum_depth b → BreaksOff (element_bytes b) key → ⊥
readable_unbroken b key readable broken = let elements = elements_of b readable in broken_no_document b key elements.0 elements.1 broken
