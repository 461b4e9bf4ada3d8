-- The body of a `saslStart`, as its fields are put.
use Rattle.std.proofs.Common.{◌≡◌, ℕ, pos, ◌⊎◌, inl, inr, List, [], ◌∷◌, ◌++◌, append-nil, sym, ap, ◌∙◌}
use Rattle.mongo_bson.specs.Document.{Element}
use Rattle.mongo_command.specs.Literal.{text_element, int32_element, document_element, document_of, generic_element}
use Rattle.mongo_sasl.specs.declared.mechanism.AuthMechanism.{AuthMechanism}
use Rattle.mongo_sasl.specs.declared.mechanism.AuthMechanism.TheVariants.{ScramSha1, ScramSha256}
use Rattle.mongo_sasl.specs.Mechanism.{name_of}
use Rattle.mongo_sasl.specs.Commands.{skip_empty_exchange, start_options, start_with, start_body}
use Rattle.mongo_sasl.specs.Keys.{mechanism_key, options_key, payload_key, sasl_start_key}

abbrev fields_put : List ℕ → List ℕ → List Element → List Element
fields_put name payload options = int32_element sasl_start_key (pos 1) ∷ text_element mechanism_key name ∷ generic_element payload_key payload ∷ (options ++ [])

pub started_with : (mechanism : AuthMechanism) (name sent payload : List ℕ) (options : List Element) → name ≡ name_of mechanism → sent ≡ payload → fields_put name sent options ≡ start_with mechanism payload options
started_with mechanism name sent payload options named is =
    ap (λ x. fields_put x sent options) named
    ∙ ap (λ x. fields_put (name_of mechanism) x options) is
    ∙ ap (λ x. start_with mechanism payload x) (append-nil options)

options_are : (mechanism : AuthMechanism) → (mechanism ≡ ScramSha1) ⊎ (mechanism ≡ ScramSha256) → start_options mechanism ≡ document_element options_key skip_empty_exchange ∷ []
options_are mechanism (inl is) = ap start_options is
options_are mechanism (inr is) = ap start_options is

pub scram_started : (mechanism : AuthMechanism) (payload options : List ℕ) (fields : List Element) → (mechanism ≡ ScramSha1) ⊎ (mechanism ≡ ScramSha256) → fields ≡ document_element options_key options ∷ [] → options ≡ skip_empty_exchange → document_of (start_with mechanism payload fields) ≡ start_body mechanism payload
scram_started mechanism payload options fields which are skips =
    ap (λ x. document_of (start_with mechanism payload x)) (are ∙ ap (λ d. document_element options_key d ∷ []) skips ∙ sym (options_are mechanism which))
