-- Readable properties are judged by their elements.
use Rattle.std.proofs.Common.{◌≡◌, ℕ, inl, Bool, Option, None, Some, Result, List, is_some, refl, ap, ◌∙◌}
use Rattle.mongo_bson.specs.Document.{Element, IsDocument, IsReadable, maximum_depth}
use Rattle.mongo_bson.specs.declared.raw_value.RawValue.{RawValue}
use Rattle.mongo_wire.specs.declared.fault.ArgumentFault.{ArgumentFault}
use Rattle.mongo_command.specs.Fields.{IsValueOf}
use Rattle.mongo_sasl.specs.declared.credential.Credential.{Credential}
use Rattle.mongo_sasl.specs.declared.rules.Rule.{Rule}
use Rattle.mongo_sasl.specs.Rules.{first_broken}
use Rattle.mongo_sasl.specs.Validation.{ByProperties, oidc_table}
use Rattle.mongo_command.proofs.FirstOfKey.{elements_of}

pub properties_judged_by : (properties : List ℕ) (rules : List Element → List Rule) (result : Result (Unit {0}) ArgumentFault) → IsReadable maximum_depth properties → ((elements : List Element) → IsDocument properties elements → result ≡ first_broken (rules elements)) → ByProperties properties rules result
properties_judged_by properties rules result readable says =
    let elements = elements_of properties readable in
    inl (readable, elements.0, elements.1, says elements.0 elements.1)

-- a value is there where its element is
pub value_there : (found : Option Element) (value : Option RawValue) → IsValueOf found value → is_some value ≡ is_some found
value_there None None is = refl
value_there None (Some value) is = absurd is
value_there (Some e) None is = absurd is
value_there (Some e) (Some value) is = refl

-- the same of the properties is judged the same
pub judged_alike : (c : Credential) (callback foreign foreign' resource resource' hosts hosts' : Bool) (environment environment' : Option (List ℕ)) → foreign ≡ foreign' → environment ≡ environment' → resource ≡ resource' → hosts ≡ hosts'
    → first_broken (oidc_table c callback foreign environment resource hosts) ≡ first_broken (oidc_table c callback foreign' environment' resource' hosts')
judged_alike c callback foreign foreign' resource resource' hosts hosts' environment environment' f e r h =
    ap (λ x. first_broken (oidc_table c callback x environment resource hosts)) f
    ∙ ap (λ x. first_broken (oidc_table c callback foreign' x resource hosts)) e
    ∙ ap (λ x. first_broken (oidc_table c callback foreign' environment' x hosts)) r
    ∙ ap (λ x. first_broken (oidc_table c callback foreign' environment' resource' x)) h
