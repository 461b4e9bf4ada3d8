-- The mechanism that a text names is the one of the table of names.
use Rattle.std.proofs.Common.{◌≡◌, ℕ, false, None, Some, Ok, Err, List, [], ◌∷◌, bytes_eq, refl, ap, ◌∙◌, sym}
use Rattle.std.specs.List.{find}
use Rattle.std.proofs.lemmas.Bool.{false_from_ne_true}
use Rattle.std.proofs.lemmas.Slice.Eq.{bytes_eq-Decides}
use Rattle.mongo_wire.specs.declared.fault.ArgumentFault.{ArgumentFault}
use Rattle.mongo_wire.specs.declared.fault.ArgumentFault.TheVariants.{MechanismUnknown, MechanismGssapi}
use Rattle.mongo_sasl.specs.declared.mechanism.AuthMechanism.{AuthMechanism}
use Rattle.mongo_sasl.specs.declared.mechanism.AuthMechanism.TheVariants.{MongoDbCr, ScramSha1, ScramSha256, MongoDbX509, Plain, MongoDbAws, MongoDbOidc}
use Rattle.mongo_sasl.specs.Mechanism.{name_of, gssapi, Names}
use Rattle.mongo_settings.specs.Credential.{mechanisms, mechanism_named}

named_by_name : (mechanism : AuthMechanism) → mechanism_named (name_of mechanism) ≡ Some mechanism
unfolding mechanism_named
named_by_name MongoDbCr = refl
named_by_name ScramSha1 = refl
named_by_name ScramSha256 = refl
named_by_name MongoDbX509 = refl
named_by_name Plain = refl
named_by_name MongoDbAws = refl
named_by_name MongoDbOidc = refl

named_by_gssapi : mechanism_named gssapi ≡ None
unfolding mechanism_named
named_by_gssapi = refl

-- every test fails
none_in : (text : List ℕ) (others : List AuthMechanism) → ((mechanism : AuthMechanism) → text ≡ name_of mechanism → ⊥) → find (λ m. bytes_eq text (name_of m)) others ≡ None
none_in text [] other = refl
none_in text (mechanism ∷ others) other =
    let fails : bytes_eq text (name_of mechanism) ≡ false = false_from_ne_true _ (λ is. other mechanism ((bytes_eq-Decides text (name_of mechanism)).0 is)) in
    rw fails (none_in text others other)

unnamed : (text : List ℕ) → ((mechanism : AuthMechanism) → text ≡ name_of mechanism → ⊥) → mechanism_named text ≡ None
unfolding mechanism_named
unnamed text other = none_in text mechanisms other

pub mechanism_named-ok : (text : List ℕ) (mechanism : AuthMechanism) → Names text (Ok mechanism) → Some mechanism ≡ mechanism_named text
mechanism_named-ok text mechanism named = sym (ap mechanism_named named ∙ named_by_name mechanism)

pub mechanism_named-err : (text : List ℕ) (fault : ArgumentFault) → Names text (Err fault) → None ≡ mechanism_named text
mechanism_named-err text MechanismGssapi named = sym (ap mechanism_named named ∙ named_by_gssapi)
mechanism_named-err text MechanismUnknown named = sym (unnamed text named.0)
mechanism_named-err text fault named = absurd named
