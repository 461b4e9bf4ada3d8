-- The commands of a login, by the authentication specification and the server's `saslStart` and `saslContinue`.
use Rattle.std.specs.Prelude.{ℕ, pos, true, List, [], ◌∷◌}
use Rattle.mongo_bson.specs.Document.{Element}
use Rattle.mongo_bson.specs.declared.owned_value.OwnedValue.{OwnedValue}
use Rattle.mongo_command.specs.Literal.{text_element, int32_element, boolean_element, document_element, generic_element, document_of}
use Rattle.mongo_sasl.specs.declared.mechanism.AuthMechanism.{AuthMechanism}
use Rattle.mongo_sasl.specs.declared.mechanism.AuthMechanism.TheVariants.{ScramSha1, ScramSha256}
use Rattle.mongo_sasl.specs.Mechanism.{name_of}
use Rattle.mongo_sasl.specs.Keys.{conversation_id_key, mechanism_key, options_key, payload_key, sasl_continue_key, sasl_start_key, skip_empty_exchange_key}
use Rattle.mongo_command.specs.declared.command.Command.{Command}
use Rattle.mongo_command.specs.Command.{command_of}
use Rattle.mongo_sasl.specs.declared.sasl_start.SaslStart.{SaslStart}
use Rattle.mongo_sasl.specs.declared.sasl_continue.SaslContinue.{SaslContinue}

-- ---- the bodies

-- a value as it lies
abbrev pub value_element : List ℕ → OwnedValue → Element
value_element key value = record { kind = value.kind; key = key; value = value.bytes }

-- SCRAM ends with the server's last message, with no empty exchange after it
abbrev pub skip_empty_exchange : List ℕ
skip_empty_exchange = document_of (boolean_element skip_empty_exchange_key true ∷ [])

abbrev pub start_options : AuthMechanism → List Element
start_options ScramSha1 = document_element options_key skip_empty_exchange ∷ []
start_options ScramSha256 = document_element options_key skip_empty_exchange ∷ []
start_options other = []

-- the elements of a `saslStart` with these options
abbrev pub start_with : AuthMechanism → List ℕ → List Element → List Element
start_with mechanism payload options =
    int32_element sasl_start_key (pos 1)
    ∷ text_element mechanism_key (name_of mechanism)
    ∷ generic_element payload_key payload
    ∷ options

abbrev pub start_elements : AuthMechanism → List ℕ → List Element
start_elements mechanism payload = start_with mechanism payload (start_options mechanism)

-- the elements of a `saslContinue`
abbrev pub continue_elements : OwnedValue → List ℕ → List Element
continue_elements conversation_id payload =
    int32_element sasl_continue_key (pos 1)
    ∷ value_element conversation_id_key conversation_id
    ∷ generic_element payload_key payload
    ∷ []

abbrev pub start_body : AuthMechanism → List ℕ → List ℕ
start_body mechanism payload = document_of (start_elements mechanism payload)

abbrev pub continue_body : OwnedValue → List ℕ → List ℕ
continue_body conversation_id payload = document_of (continue_elements conversation_id payload)

-- ---- the commands, on the source, with the server API

abbrev pub start_command : SaslStart → Command
start_command s = command_of sasl_start_key s.source (start_body s.mechanism s.payload) s.server_api

abbrev pub continue_command : SaslContinue → Command
continue_command s = command_of sasl_continue_key s.source (continue_body s.conversation_id s.payload) s.server_api
