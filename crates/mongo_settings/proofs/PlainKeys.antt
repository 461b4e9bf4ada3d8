-- Keys of BSON, which hold no zero, and what is put under them.
use Rattle.std.proofs.Common.{◌≡◌, ℕ, zero, suc, ◌+◌, ◌<◌, ◌==◌, true, false, Some, List, [], ◌∷◌, ◌++◌, length, get_or, refl, Contains, arith}
use Rattle.std.specs.List.{list_any}
use Rattle.std.proofs.Math.Bool.{or-true}
use Rattle.std.proofs.lemmas.Bool.{eqb-true, false_from_ne_true}
use Rattle.std.proofs.lemmas.Map.Views.{Contains-from_any}
use Rattle.mongo_bson.specs.Framed.{element_bytes, enclosed, maximum_length}
use Rattle.mongo_bson.specs.Document.{Element, spell}
use Rattle.mongo_bson.specs.Refusals.{AppendRefuses}
use Rattle.mongo_bson.specs.declared.fault.BsonFault.{BsonFault}
use Rattle.mongo_bson.specs.declared.fault.BsonFault.TheVariants.{KeyHasZero, TooLong, OutOfMemory}
use Rattle.mongo_settings.specs.Kinds.{error_of}
use Rattle.mongo_settings.specs.Properties.{keyed, IsPut, CannotPut}

zero_at : (key : List ℕ) (k : ℕ) → k < length key → get_or key k 0 ≡ 0 → list_any (λ b. 0 == b) key ≡ true
zero_at [] k within at = absurd (omega (arith, within))
zero_at (b ∷ bs) zero within at = rw at refl
zero_at (b ∷ bs) (suc k) within at = rw (zero_at bs k (omega (arith, within)) at) (or-true _)

has_zero : (key : List ℕ) → Contains key 0 → list_any (λ b. 0 == b) key ≡ true
has_zero key holds = zero_at key holds.0 holds.1 holds.2

has_none : (key : List ℕ) → (Contains key 0 → ⊥) → list_any (λ b. 0 == b) key ≡ false
has_none key plain = false_from_ne_true _ (λ is. plain (Contains-from_any {eq = ◌==◌} eqb-true 0 key is))

pub put_under : (key old new : List ℕ) (e : Element) → (Contains key 0 → ⊥) → new ≡ enclosed (element_bytes old ++ spell e) → IsPut (keyed key (Some e)) old new
put_under key old new e plain put = rw (has_none key plain) put

pub not_put_under : (key old : List ℕ) (e : Element) (fault : BsonFault) → AppendRefuses fault → (fault ≡ KeyHasZero → Contains key 0) → (fault ≡ TooLong → (Contains key 0 → ⊥) × (maximum_length < length old + length (spell e)))
    → CannotPut (error_of fault) (keyed key (Some e)) old
not_put_under key old e KeyHasZero refuses zeros long = rw (has_zero key (zeros refl)) tt
not_put_under key old e TooLong refuses zeros long = rw (has_none key (long refl).0) (long refl).1
not_put_under key old e OutOfMemory refuses zeros long = tt
not_put_under key old e fault refuses zeros long = absurd refuses
