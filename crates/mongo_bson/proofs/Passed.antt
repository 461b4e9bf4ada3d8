-- Elements of other keys that a search has passed over.
use Rattle.std.proofs.Common.{◌≡◌, ◌≢◌, ℕ, List, [], ◌∷◌, ◌++◌, refl, sym, ap, ◌∙◌}
use Rattle.std.specs.List.{AllByRecursion, flat_map}
use Rattle.std.proofs.lemmas.List.{append_assoc, append-nil}
use Rattle.std.proofs.lemmas.List.Concat.{flat_map-append}
use Rattle.mongo_bson.specs.Document.{Element, IsElement, spell}
use Rattle.mongo_bson.specs.Reading.{BeginsWithElement}
use Rattle.mongo_bson.specs.Find.{PassesOver, LacksKey}

-- what holds of each and of one more
pub all_push : {X : Type 0} (P : X → Type 0) (xs : List X) (x : X) → AllByRecursion P xs → P x → AllByRecursion P (xs ++ x ∷ [])
all_push P [] x all one = (one, tt)
all_push P (y ∷ ys) x all one = (all.0, all_push P ys x all.1 one)

pub passes_none : (bytes key : List ℕ) → PassesOver bytes key bytes
passes_none bytes key = record { before = []; spelled = refl; each = tt; other = tt }

pub passes_one : (bytes key rest after : List ℕ) (e : Element) → PassesOver bytes key rest → BeginsWithElement rest e after → e.key ≢ key → PassesOver bytes key after
passes_one bytes key rest after e passed begins other =
    let before = passed.before in
    let one : flat_map spell (e ∷ []) ≡ spell e = append-nil (spell e) in
    let longer : flat_map spell (before ++ e ∷ []) ≡ flat_map spell before ++ spell e = flat_map-append spell before (e ∷ []) ∙ ap (λ w. flat_map spell before ++ w) one in
    record {
      before = before ++ e ∷ [];
      spelled = passed.spelled ∙ ap (λ w. flat_map spell before ++ w) begins.spelled ∙ sym (append_assoc (flat_map spell before) (spell e) after) ∙ ap (λ w. w ++ after) (sym longer);
      each = all_push IsElement before e passed.each begins.is_element;
      other = all_push (λ x. x.key ≢ key) before e passed.other other;
    }

pub passes_all : (bytes key rest : List ℕ) → PassesOver bytes key rest → rest ≡ [] → LacksKey bytes key
passes_all bytes key rest passed over =
    let filled = passed.spelled ∙ ap (λ w. flat_map spell passed.before ++ w) over ∙ append-nil (flat_map spell passed.before) in
    record { elements = passed.before; fill = record { spelled = filled; each = passed.each }; other = passed.other }
