-- What the client's messages hold.
use Rattle.std.specs.Prelude.{◌≡◌, ℕ, ℤ, Bool, Option, None, Some, List, drop, string_bytes}
use Rattle.mongo_wire.specs.Outside.{risen}
use Rattle.mongo_command.specs.declared.server_api.ServerApi.{ServerApi}
use Rattle.mongo_sasl.specs.declared.credential.Credential.{Credential}
use Rattle.mongo_scram.specs.declared.scram_version.ScramVersion.{ScramVersion}
use Rattle.mongo_scram.specs.declared.auth_info.ClientAuthInfo.{ClientAuthInfo}
use Rattle.mongo_scram.specs.declared.first_round.FirstRound.{FirstRound}
use Rattle.mongo_scram.specs.User.{User}
use Rattle.mongo_scram.specs.Plan.{Speculated, Handed}
use Rattle.mongo_bson.specs.declared.owned_value.OwnedValue.{OwnedValue}
use Rattle.mongo_scram.specs.declared.messages.ClientFirst.{ClientFirst}
use Rattle.mongo_scram.specs.declared.messages.ClientFinal.{ClientFinal}

abbrev pub message_of : ClientFirst → List ℕ
message_of first = string_bytes first.message

-- the message without its GS2 header, three bytes
abbrev pub bare_of : ClientFirst → List ℕ
bare_of first = drop 3 (string_bytes first.message)

abbrev pub nonce_of : ClientFirst → List ℕ
nonce_of first = first.nonce

abbrev pub first_source : ClientFirst → List ℕ
first_source first = first.source

abbrev pub includes_db : ClientFirst → Bool
includes_db first = first.include_db

abbrev pub server_api_of : ClientFirst → Option ServerApi
server_api_of first = first.server_api

-- two messages say the same, and their commands too
pub record SameFirst (a b : ClientFirst) : Type 0 where
  pub message : message_of a ≡ message_of b
  pub nonce : nonce_of a ≡ nonce_of b
  pub source : first_source a ≡ first_source b
  pub db : includes_db a ≡ includes_db b
  pub api : server_api_of a ≡ server_api_of b

abbrev pub final_of : ClientFinal → List ℕ
final_of last = string_bytes last.message

abbrev pub auth_message_of : ClientFinal → List ℕ
auth_message_of last = string_bytes last.auth_message

abbrev pub final_conversation : ClientFinal → OwnedValue
final_conversation last = last.conversation_id

abbrev pub final_source_of : ClientFinal → List ℕ
final_source_of last = last.source

abbrev pub final_api_of : ClientFinal → Option ServerApi
final_api_of last = last.server_api

abbrev pub user_of : ClientAuthInfo → User
user_of info = record { username = info.username.now; password = info.password.now; source = info.source.now }

abbrev pub speculated_of : Option FirstRound → Option Speculated
speculated_of None = None
speculated_of (Some round) = Some (record { message = message_of round.client_first; nonce = nonce_of round.client_first; reply = round.server_first })

-- what a login is handed by these
abbrev pub handed_to : ScramVersion → Credential → Option ServerApi → Option FirstRound → List ℕ → ℕ → ℤ → Handed
handed_to version credential api round nonce max_iterations maximum = record { version = version; credential = credential; server_api = api; speculated = speculated_of round; nonce = nonce; max_iterations = max_iterations; maximum = maximum }

-- the count of a buffer's frames after the replies of a login: one, where a first round went with the hello, or two
abbrev pub frames_after : Option FirstRound → ℕ → ℕ
frames_after None frames = risen (risen frames)
frames_after (Some round) frames = risen frames
