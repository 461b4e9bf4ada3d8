-- The elements that values of JSON are written as, one value after another.
use Rattle.std.proofs.Common.{◌≡◌, ℕ, suc, ◌+◌, ◌<◌, Option, None, List, ◌∷◌, length, get_or, drop, refl, sym, ap, ◌∙◌, add-one, drop-cons}
use Rattle.std.specs.Prelude.{String, string_bytes}
use Rattle.std.specs.Fmt.{decimal}
use Rattle.std.specs.declared.alloc.Global.{Global}
use Rattle.serde_json.specs.Data.{Data, array}
use Rattle.serde_json.specs.Find.{as_array}
use Rattle.serde_json.specs.View.{view, items_view, members_view}
use Rattle.serde_json.specs.declared.value.Value.{Value}
use Rattle.mongo_bson.specs.Document.{Element}
use Rattle.mongo_settings.specs.Kinds.{MeansNothing}
use Rattle.mongo_settings.specs.Properties.{plain_element, item_elements, member_elements, property_element, keyed, CannotPut}
use Rattle.mongo_settings.specs.declared.settings.SettingsError.{SettingsError}
use Rattle.mongo_settings.specs.declared.settings.SettingsError.TheVariants.{BadSettings, NotBuilt, OutOfMemory}
use Rattle.mongo_settings.proofs.Grown.{before}

-- an item's element stands before those of the items after it
pub item_elements-drop : (items : List Value) (i : ℕ) (x : Value) → i < length items → x ≡ get_or items i x
    → item_elements i (items_view (drop i items)) ≡ before (plain_element (decimal i) (view x)) (item_elements (i + 1) (items_view (drop (i + 1) items)))
unfolding item_elements
item_elements-drop items i x within at =
    let next : drop i items ≡ x ∷ drop (i + 1) items = drop-cons items i x within ∙ ap (λ y. y ∷ drop (suc i) items) (sym at) ∙ ap (λ n. x ∷ drop n items) (sym (add-one i)) in
    ap (λ l. item_elements i (items_view l)) next

-- a member's element stands before those of the members after it
pub member_elements-step : (members others : List (String Global × Value)) (name : String Global) (key : List ℕ) (x : Value) → members ≡ (name, x) ∷ others → key ≡ string_bytes name
    → member_elements (members_view members) ≡ before (keyed key (property_element key (view x))) (member_elements (members_view others))
unfolding member_elements
member_elements-step members others name key x next named =
    ap (λ l. member_elements (members_view l)) next ∙ ap (λ k. before (keyed k (property_element k (view x))) (member_elements (members_view others))) (sym named)

-- a property that is no array is a text or a number
pub property_element-plain : (key : List ℕ) (d : Data) → as_array d ≡ None → property_element key d ≡ plain_element key d
property_element-plain key (array items) none = cc
property_element-plain key d none = refl

-- what has no element isn't put, under no key
pub without_element : (error : SettingsError) (key old : List ℕ) (element : Option Element) → MeansNothing error element → CannotPut error (keyed key element) old
without_element OutOfMemory key old element nothing = tt
without_element NotBuilt key old element nothing = absurd nothing
without_element BadSettings key old element nothing = rw nothing tt
