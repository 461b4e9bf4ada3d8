-- Which credentials a mechanism takes, by the authentication specification.
use Rattle.std.specs.Prelude.{◌≡◌, ℕ, ◌&&◌, ◌||◌, Bool, false, not, ◌⊎◌, Option, Result, Ok, Err, List, [], ◌∷◌, bytes_eq, codes, is_some, is_none}
use Rattle.mongo_bson.specs.Document.{Element, IsDocument, IsReadable, maximum_depth}
use Rattle.mongo_wire.specs.declared.fault.ArgumentFault.{ArgumentFault}
use Rattle.mongo_wire.specs.declared.fault.ArgumentFault.TheVariants.{PropertiesMalformed, ScramUsername, X509Password, X509Source, PlainUsername, PlainUsernameEmpty, PlainPassword, AwsUriCredentials, OidcProperty, OidcCallbackWithEnvironment, OidcResourceMissing, OidcResourceGiven, OidcSource, OidcPassword, OidcEnvironment, OidcHostsNotArray}
use Rattle.mongo_command.specs.Field.{field_of}
use Rattle.mongo_command.specs.Hello.{is_text}
use Rattle.mongo_sasl.specs.declared.mechanism.AuthMechanism.{AuthMechanism}
use Rattle.mongo_sasl.specs.declared.mechanism.AuthMechanism.TheVariants.{MongoDbCr, ScramSha1, ScramSha256, MongoDbX509, Plain, MongoDbAws, MongoDbOidc}
use Rattle.mongo_sasl.specs.declared.credential.Credential.{Credential}
use Rattle.mongo_sasl.specs.declared.rules.Rule.{Rule}
use Rattle.mongo_sasl.specs.Mechanism.{external}
use Rattle.mongo_sasl.specs.Rules.{rule, first_broken, is_other_than, properties_of, has_property, text_property, is_other_than_array}

-- ---- the rules of each mechanism

abbrev pub scram_rules : Credential → List Rule
scram_rules c =
    rule ScramUsername (is_none c.username)
    ∷ []

abbrev pub x509_rules : Credential → List Rule
x509_rules c =
    rule X509Password (is_some c.password)
    ∷ rule X509Source (is_other_than external c.source)
    ∷ []

abbrev pub plain_rules : Credential → List Rule
plain_rules c =
    rule PlainUsername (is_none c.username)
    ∷ rule PlainUsernameEmpty (is_text c.username (codes ""))
    ∷ rule PlainPassword (is_none c.password)
    ∷ []

-- no credentials of its own: they belong to the helper
abbrev pub aws_rules : Credential → List Element → List Rule
aws_rules c properties =
    rule AwsUriCredentials (is_some c.username || is_some c.password || has_property (codes "AWS_SESSION_TOKEN") properties)
    ∷ []

-- the properties that OIDC has
abbrev pub token_resource : List ℕ
token_resource = codes "TOKEN_RESOURCE"

abbrev pub environment_property : List ℕ
environment_property = codes "ENVIRONMENT"

abbrev pub allowed_hosts : List ℕ
allowed_hosts = codes "ALLOWED_HOSTS"

abbrev pub is_oidc_property : List ℕ → Bool
is_oidc_property name = bytes_eq name token_resource || bytes_eq name environment_property || bytes_eq name allowed_hosts

-- a property is there that OIDC doesn't have
abbrev pub has_foreign_property : List Element → Bool
has_foreign_property [] = false
has_foreign_property (e ∷ es) = not (is_oidc_property e.key) || has_foreign_property es

-- the environments whose tokens are made for a resource
abbrev pub takes_resource : Option (List ℕ) → Bool
takes_resource environment = is_text environment (codes "azure") || is_text environment (codes "gcp")

-- an environment is given that is none of the three
abbrev pub is_unknown_environment : Option (List ℕ) → Bool
is_unknown_environment environment = is_some environment && not (takes_resource environment || is_text environment (codes "k8s"))

-- by what the properties say: whether there is a foreign one, the environment, whether there is a token resource, and
-- whether the allowed hosts are there and no array
abbrev pub oidc_table : Credential → Bool → Bool → Option (List ℕ) → Bool → Bool → List Rule
oidc_table c callback_given foreign environment resource hosts_other_than_array =
    rule OidcProperty foreign
    ∷ rule OidcCallbackWithEnvironment (is_some environment && callback_given)
    ∷ rule OidcResourceMissing (takes_resource environment && not resource)
    ∷ rule OidcResourceGiven (not (takes_resource environment) && resource)
    ∷ rule OidcSource (is_other_than external c.source)
    ∷ rule OidcPassword (is_some c.password)
    ∷ rule OidcEnvironment (is_unknown_environment environment)
    ∷ rule OidcHostsNotArray hosts_other_than_array
    ∷ []

abbrev pub oidc_rules : Credential → Bool → List Element → List Rule
oidc_rules c callback_given properties =
    oidc_table c callback_given
    (has_foreign_property properties)
    (text_property environment_property properties)
    (has_property token_resource properties)
    (is_other_than_array (field_of allowed_hosts properties))

-- ---- the answer

-- by the rules for readable properties; where they aren't readable, that is the fault
abbrev pub ByProperties : List ℕ → (List Element → List Rule) → Result (Unit {0}) ArgumentFault → Type 0
ByProperties properties rules result =
    (IsReadable maximum_depth properties × (elements : List Element) × IsDocument properties elements × (result ≡ first_broken (rules elements)))
    ⊎ ((IsReadable maximum_depth properties → ⊥) × (result ≡ Err PropertiesMalformed))

-- what a mechanism answers of a credential
abbrev pub IsValidated : AuthMechanism → Credential → Bool → Result (Unit {0}) ArgumentFault → Type 0
IsValidated MongoDbCr c callback_given result = result ≡ Ok tt
IsValidated ScramSha1 c callback_given result = result ≡ first_broken (scram_rules c)
IsValidated ScramSha256 c callback_given result = result ≡ first_broken (scram_rules c)
IsValidated MongoDbX509 c callback_given result = result ≡ first_broken (x509_rules c)
IsValidated Plain c callback_given result = result ≡ first_broken (plain_rules c)
IsValidated MongoDbAws c callback_given result = ByProperties (properties_of c) (aws_rules c) result
IsValidated MongoDbOidc c callback_given result = ByProperties (properties_of c) (oidc_rules c callback_given) result
