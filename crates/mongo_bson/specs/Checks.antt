-- Which documents may update or replace another, by their first key.
use Rattle.std.specs.Prelude.{◌≡◌, ◌⊎◌, ℕ, Result, Ok, Err, List, [], ◌∷◌}
use Rattle.mongo_bson.specs.Steps.{IsBroken}
use Rattle.mongo_bson.specs.Find.{BeginsWithKey}
use Rattle.mongo_bson.specs.declared.fault.BsonFault.{BsonFault}
use Rattle.mongo_bson.specs.declared.fault.BsonFault.TheVariants.{Malformed, UpdateEmpty, UpdateNotModifiers, ReplacementHasModifiers}

-- a key that begins with `$`
abbrev pub IsModifier : List ℕ → Type 0
IsModifier key = (rest : List ℕ) × (key ≡ 36 ∷ rest)

-- the first key is a modifier's
abbrev pub BeginsWithModifier : List ℕ → Type 0
BeginsWithModifier bytes = (key : List ℕ) × BeginsWithKey bytes key × IsModifier key

-- there is a first key, and it is no modifier's
abbrev pub BeginsWithField : List ℕ → Type 0
BeginsWithField bytes = (key : List ℕ) × BeginsWithKey bytes key × (IsModifier key → ⊥)

abbrev pub IsUpdate : List ℕ → Result (Unit {0}) BsonFault → Type 0
IsUpdate bytes (Ok _) = BeginsWithModifier bytes
IsUpdate bytes (Err UpdateEmpty) = bytes ≡ []
IsUpdate bytes (Err UpdateNotModifiers) = BeginsWithField bytes
IsUpdate bytes (Err Malformed) = IsBroken bytes
IsUpdate bytes (Err other) = ⊥

abbrev pub IsReplacement : List ℕ → Result (Unit {0}) BsonFault → Type 0
IsReplacement bytes (Ok _) = (bytes ≡ []) ⊎ BeginsWithField bytes
IsReplacement bytes (Err ReplacementHasModifiers) = BeginsWithModifier bytes
IsReplacement bytes (Err Malformed) = IsBroken bytes
IsReplacement bytes (Err other) = ⊥
