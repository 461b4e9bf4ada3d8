-- A mechanism answers one thing of a credential.
use Rattle.std.proofs.Common.{◌≡◌, ℕ, ◌∙◌, refl, ap, sym, inl, inr, Bool, Result, Ok, List}
use Rattle.std.specs.Bool.{⊤}
use Rattle.mongo_bson.specs.Document.{Element}
use Rattle.mongo_bson.proofs.OneElement.{one_document}
use Rattle.mongo_wire.specs.declared.fault.ArgumentFault.{ArgumentFault}
use Rattle.mongo_sasl.specs.declared.credential.Credential.{Credential}
use Rattle.mongo_sasl.specs.declared.mechanism.AuthMechanism.{AuthMechanism}
use Rattle.mongo_sasl.specs.declared.mechanism.AuthMechanism.TheVariants.{MongoDbCr, ScramSha1, ScramSha256, MongoDbX509, Plain, MongoDbAws, MongoDbOidc}
use Rattle.mongo_sasl.specs.declared.rules.Rule.{Rule}
use Rattle.mongo_sasl.specs.Rules.{first_broken, properties_of}
use Rattle.mongo_sasl.specs.Validation.{scram_rules, x509_rules, plain_rules, aws_rules, oidc_rules, ByProperties, IsValidated}

one_by_properties : (properties : List ℕ) (rules : List Element → List Rule) (a b : Result (Unit {0}) ArgumentFault) → ByProperties properties rules a → ByProperties properties rules b → a ≡ b
one_by_properties properties rules a b (inl p) (inl q) = p.3 ∙ ap (λ es. first_broken (rules es)) (one_document properties p.1 q.1 p.2 q.2) ∙ sym q.3
one_by_properties properties rules a b (inl p) (inr q) = absurd (q.0 p.0)
one_by_properties properties rules a b (inr p) (inl q) = absurd (p.0 q.0)
one_by_properties properties rules a b (inr p) (inr q) = p.1 ∙ sym q.1

pub one_answer : (mechanism : AuthMechanism) (credential : Credential) (callback_given : Bool) (a b : Result (Unit {0}) ArgumentFault) → IsValidated mechanism credential callback_given a → IsValidated mechanism credential callback_given b → a ≡ b
one_answer MongoDbAws credential callback_given a b p q = one_by_properties (properties_of credential) (aws_rules credential) a b p q
one_answer MongoDbOidc credential callback_given a b p q = one_by_properties (properties_of credential) (oidc_rules credential callback_given) a b p q
one_answer mechanism credential callback_given a b p q = p ∙ sym q

-- a mechanism whose rules are on no properties
abbrev pub ReadsNoProperties : AuthMechanism → Type 0
ReadsNoProperties MongoDbAws = ⊥
ReadsNoProperties MongoDbOidc = ⊥
ReadsNoProperties mechanism = ⊤

-- it has an answer
pub has_answer : (mechanism : AuthMechanism) (credential : Credential) (callback_given : Bool) → ReadsNoProperties mechanism → (result : Result (Unit {0}) ArgumentFault) × IsValidated mechanism credential callback_given result
has_answer MongoDbCr credential callback_given none = (Ok tt, refl)
has_answer ScramSha1 credential callback_given none = (first_broken (scram_rules credential), refl)
has_answer ScramSha256 credential callback_given none = (first_broken (scram_rules credential), refl)
has_answer MongoDbX509 credential callback_given none = (first_broken (x509_rules credential), refl)
has_answer Plain credential callback_given none = (first_broken (plain_rules credential), refl)
has_answer mechanism credential callback_given none = absurd none
