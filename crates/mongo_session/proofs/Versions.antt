-- The version of SCRAM that a text names is that of the mechanism of this name.
use Rattle.std.proofs.Common.{◌≡◌, ℕ, false, None, Ok, Err, List, bytes_eq, refl, ap, ◌∙◌, sym}
use Rattle.std.proofs.lemmas.Bool.{false_from_ne_true}
use Rattle.std.proofs.lemmas.Slice.Eq.{bytes_eq-Decides}
use Rattle.mongo_wire.specs.declared.fault.ArgumentFault.{ArgumentFault}
use Rattle.mongo_wire.specs.declared.fault.ArgumentFault.TheVariants.{MechanismUnknown, MechanismGssapi}
use Rattle.mongo_sasl.specs.declared.mechanism.AuthMechanism.{AuthMechanism}
use Rattle.mongo_sasl.specs.declared.mechanism.AuthMechanism.TheVariants.{MongoDbCr, ScramSha1, ScramSha256, MongoDbX509, Plain, MongoDbAws, MongoDbOidc}
use Rattle.mongo_sasl.specs.Mechanism.{name_of, Names}
use Rattle.mongo_scram.specs.declared.scram_version.ScramVersion.TheVariants.{Sha1, Sha256}
use Rattle.mongo_scram.specs.Version.{version_name}
use Rattle.mongo_session.specs.ServeSettings.{scram_version_of, version_named}

by_name : (mechanism : AuthMechanism) → scram_version_of mechanism ≡ version_named (name_of mechanism)
by_name MongoDbCr = refl
by_name ScramSha1 = refl
by_name ScramSha256 = refl
by_name MongoDbX509 = refl
by_name Plain = refl
by_name MongoDbAws = refl
by_name MongoDbOidc = refl

-- a text that is the name of no mechanism
unnamed : (text : List ℕ) → ((mechanism : AuthMechanism) → text ≡ name_of mechanism → ⊥) → None ≡ version_named text
unnamed text other =
    let no_sha1 : bytes_eq text (version_name Sha1) ≡ false = false_from_ne_true _ (λ is. other ScramSha1 ((bytes_eq-Decides text (version_name Sha1)).0 is)) in
    let no_sha256 : bytes_eq text (version_name Sha256) ≡ false = false_from_ne_true _ (λ is. other ScramSha256 ((bytes_eq-Decides text (version_name Sha256)).0 is)) in
    rw (no_sha1, no_sha256) refl

pub version_named-ok : (text : List ℕ) (mechanism : AuthMechanism) → Names text (Ok mechanism) → scram_version_of mechanism ≡ version_named text
version_named-ok text mechanism named = by_name mechanism ∙ ap version_named (sym named)

pub version_named-err : (text : List ℕ) (fault : ArgumentFault) → Names text (Err fault) → None ≡ version_named text
version_named-err text MechanismGssapi named = ap version_named (sym named)
version_named-err text MechanismUnknown named = unnamed text named.0
version_named-err text fault named = absurd named
