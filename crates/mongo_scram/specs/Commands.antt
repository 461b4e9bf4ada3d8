-- The commands of a SCRAM login: the client's messages as payloads.
use Rattle.std.specs.Prelude.{ℕ, Bool, true, false, Option, Some, List, [], ◌∷◌, ◌++◌, codes, if◌then◌else◌}
use Rattle.mongo_bson.specs.Document.{Element}
use Rattle.mongo_bson.specs.declared.owned_value.OwnedValue.{OwnedValue}
use Rattle.mongo_command.specs.Literal.{text_element, document_of}
use Rattle.mongo_command.specs.Command.{command_of}
use Rattle.mongo_command.specs.declared.command.Command.{Command}
use Rattle.mongo_command.specs.declared.server_api.ServerApi.{ServerApi}
use Rattle.mongo_sasl.specs.declared.mechanism.AuthMechanism.{AuthMechanism}
use Rattle.mongo_sasl.specs.declared.mechanism.AuthMechanism.TheVariants.{ScramSha1, ScramSha256}
use Rattle.mongo_sasl.specs.Commands.{start_elements, continue_body}
use Rattle.mongo_sasl.specs.Keys.{sasl_continue_key, sasl_start_key}
use Rattle.mongo_scram.specs.declared.scram_version.ScramVersion.{ScramVersion}
use Rattle.mongo_scram.specs.declared.scram_version.ScramVersion.TheVariants.{Sha1, Sha256}

abbrev pub mechanism_of : ScramVersion → AuthMechanism
mechanism_of Sha1 = ScramSha1
mechanism_of Sha256 = ScramSha256

-- it is a mechanism of SCRAM
abbrev pub is_scram : Option AuthMechanism → Bool
is_scram (Some ScramSha1) = true
is_scram (Some ScramSha256) = true
is_scram mechanism = false

-- the database of a login that goes with a hello, for there is no command whose `$db` names it
abbrev pub login_db_key : List ℕ
login_db_key = codes "db"

-- the database that is named beside the message where it goes with a hello
abbrev pub db_elements : Bool → List ℕ → List Element
db_elements include_db source = if include_db then text_element login_db_key source ∷ [] else []

-- the body that carries the client's first message
abbrev pub first_body : ScramVersion → Bool → List ℕ → List ℕ → List ℕ
first_body version include_db source message = document_of (start_elements (mechanism_of version) message ++ db_elements include_db source)

-- the `saslStart` of the client's first message
abbrev pub first_command : ScramVersion → Bool → List ℕ → List ℕ → Option ServerApi → Command
first_command version include_db source message api = command_of sasl_start_key source (first_body version include_db source message) api

-- the `saslContinue` of the client's last message
abbrev pub final_command : OwnedValue → List ℕ → List ℕ → Option ServerApi → Command
final_command conversation_id source message api = command_of sasl_continue_key source (continue_body conversation_id message) api
