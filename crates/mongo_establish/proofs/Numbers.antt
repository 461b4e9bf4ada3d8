-- Numbers of services: the order of ids tells any two apart.
use Rattle.std.proofs.Common.{◌≡◌, ◌∙◌, ℕ, false, refl, ap, sym, Some, List}
use Rattle.std.specs.declared.cmp.Ordering.{Ordering}
use Rattle.std.specs.declared.cmp.Ordering.TheVariants.{Less, Equal, Greater}
use Rattle.std.specs.Ordering.{is_eq, nat_cmp}
use Rattle.std.specs.Cmp.Lexicographic.{slice_cmp}
use Rattle.std.specs.BTreeMap.{is_at}
use Rattle.std.specs.Map.{lookup}
use Rattle.std.proofs.lemmas.Map.Lookups.{exact_bytes}
use Rattle.mongo_bson.specs.declared.raw_value.ObjectId.{ObjectId}
use Rattle.mongo_establish.specs.Generation.{Numbers, number_of, with_number, SetsNumber}

unequal : (r : Ordering) → (r ≡ Equal → ⊥) → is_eq r ≡ false
unequal Less none = refl
unequal Equal none = absurd (none refl)
unequal Greater none = refl

object_id_from_bytes : List ℕ → ObjectId
object_id_from_bytes bytes = record { 0 = bytes }

-- an id isn't found where another stands
not_at : (id other : ObjectId) → (other ≡ id → ⊥) → is_at (slice_cmp nat_cmp id.0) other.0 ≡ false
unfolding object_id_from_bytes
not_at id other apart = unequal (slice_cmp nat_cmp id.0 other.0) (λ same. apart (ap object_id_from_bytes (sym (exact_bytes id.0 other.0 same))))

-- what the map's own clauses come to
pub sets_number : (id : ObjectId) (number : ℕ) (old held new : Numbers) → held ≡ old → new ≡ with_number id number held → number_of id new ≡ Some number → ((other : List ℕ) → is_at (slice_cmp nat_cmp id.0) other ≡ false → lookup (is_at (slice_cmp nat_cmp other)) new ≡ lookup (is_at (slice_cmp nat_cmp other)) held)
    → SetsNumber id number old new
sets_number id number old held new is numbers found others = record {
  numbers = numbers ∙ ap (with_number id number) is;
  found = found;
  others = λ other apart. others other.0 (not_at id other apart) ∙ ap (number_of other) is;
}
