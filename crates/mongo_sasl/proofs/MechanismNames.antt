-- The name of a mechanism reads as that mechanism and as nothing else.
use Rattle.std.proofs.Common.{◌≡◌, ℕ, Option, None, Some, Result, Ok, Err, List, bytes_eq, if◌then◌else◌, refl, sym, ap, ◌∙◌}
use Rattle.mongo_wire.specs.declared.fault.ArgumentFault.{ArgumentFault}
use Rattle.mongo_wire.specs.declared.fault.ArgumentFault.TheVariants.{MechanismUnknown, MechanismGssapi}
use Rattle.mongo_sasl.specs.declared.mechanism.AuthMechanism.{AuthMechanism}
use Rattle.mongo_sasl.specs.declared.mechanism.AuthMechanism.TheVariants.{MongoDbCr, ScramSha1, ScramSha256, MongoDbX509, Plain, MongoDbAws, MongoDbOidc}
use Rattle.mongo_sasl.specs.Mechanism.{name_of, gssapi, Names}

-- the names told apart, so that two that are equal are of one mechanism
mechanism_by_name : List ℕ → Option AuthMechanism
mechanism_by_name text =
    if bytes_eq text (name_of MongoDbCr) then Some MongoDbCr
    else if bytes_eq text (name_of ScramSha1) then Some ScramSha1
    else if bytes_eq text (name_of ScramSha256) then Some ScramSha256
    else if bytes_eq text (name_of MongoDbX509) then Some MongoDbX509
    else if bytes_eq text (name_of Plain) then Some Plain
    else if bytes_eq text (name_of MongoDbAws) then Some MongoDbAws
    else if bytes_eq text (name_of MongoDbOidc) then Some MongoDbOidc
    else None

mechanism_by_name-name_of : (mechanism : AuthMechanism) → mechanism_by_name (name_of mechanism) ≡ Some mechanism
unfolding mechanism_by_name
mechanism_by_name-name_of MongoDbCr = refl
mechanism_by_name-name_of ScramSha1 = refl
mechanism_by_name-name_of ScramSha256 = refl
mechanism_by_name-name_of MongoDbX509 = refl
mechanism_by_name-name_of Plain = refl
mechanism_by_name-name_of MongoDbAws = refl
mechanism_by_name-name_of MongoDbOidc = refl

mechanism_by_name-gssapi : mechanism_by_name gssapi ≡ None
unfolding mechanism_by_name
mechanism_by_name-gssapi = refl

one_name : (a b : AuthMechanism) → name_of a ≡ name_of b → b ≡ a
one_name a b same = let one : Some b ≡ Some a = sym (mechanism_by_name-name_of b) ∙ ap mechanism_by_name (sym same) ∙ mechanism_by_name-name_of a in cc

not_gssapi : (mechanism : AuthMechanism) → name_of mechanism ≡ gssapi → ⊥
not_gssapi mechanism same = let none : Some mechanism ≡ None = sym (mechanism_by_name-name_of mechanism) ∙ ap mechanism_by_name same ∙ mechanism_by_name-gssapi in cc

pub again : (mechanism : AuthMechanism) (read : Result AuthMechanism ArgumentFault) → Names (name_of mechanism) read → read ≡ Ok mechanism
again mechanism (Ok other) names = ap Ok (one_name mechanism other names)
again mechanism (Err MechanismGssapi) names = absurd (not_gssapi mechanism names)
again mechanism (Err MechanismUnknown) names = absurd (names.0 mechanism refl)
again mechanism (Err other) names = absurd names
