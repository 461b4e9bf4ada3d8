-- The plan of a SCRAM login: an opening, up to a password that can be derived from, and a closing.
use Rattle.std.specs.Prelude.{◌≡◌, ℕ, ℤ, false, Option, None, Some, List, drop}
use Rattle.mongo_bson.specs.declared.owned_value.OwnedValue.{OwnedValue}
use Rattle.mongo_wire.specs.declared.error.ErrorKind.{ErrorKind}
use Rattle.mongo_wire.specs.declared.error.ErrorKind.TheVariants.{Authentication}
use Rattle.mongo_wire.specs.declared.auth_fault.AuthFault.TheVariants.{NotCompleted}
use Rattle.mongo_command.specs.declared.server_api.ServerApi.{ServerApi}
use Rattle.mongo_command.specs.Command.{command_document}
use Rattle.mongo_command.specs.Conversation.{Said, Plan, or_else, ending, unless, reading, saying, followed_by}
use Rattle.mongo_sasl.specs.declared.credential.Credential.{Credential}
use Rattle.mongo_scram.specs.declared.scram_version.ScramVersion.{ScramVersion}
use Rattle.mongo_scram.specs.declared.server_first.ServerFirst.{ServerFirst}
use Rattle.mongo_scram.specs.declared.server_final.ServerFinal.{ServerFinal}
use Rattle.mongo_scram.specs.Version.{digest_of}
use Rattle.mongo_scram.specs.User.{User, IsUser, CredentialRow}
use Rattle.mongo_scram.specs.Messages.{open_message, transcript, close_message, verifier}
use Rattle.mongo_scram.specs.Key.{PasswordRow, salted}
use Rattle.mongo_scram.specs.Commands.{first_command, final_command}
use Rattle.mongo_scram.specs.Replies.{CarriesFirst, FirstReplyRow, CarriesFinal, FinalReplyRow}
use Rattle.mongo_scram.specs.Validity.{ServerFirstRow, ServerFinalRow}

-- ---- what a login is handed

-- a first round that went with the hello: the client's first message, the nonce in it, and the reply to it
pub record Speculated : Type 0 where
  pub message : List ℕ
  pub nonce : List ℕ
  pub reply : List ℕ

pub record Handed : Type 0 where
  pub version : ScramVersion
  pub credential : Credential
  pub server_api : Option ServerApi
  pub speculated : Option Speculated
  -- the nonce of a first message of its own
  pub nonce : List ℕ
  -- the most iterations that it derives by
  pub max_iterations : ℕ
  -- the greatest frame
  pub maximum : ℤ

-- the client's first message, and the nonce in it: of the first round where there was one
abbrev pub client_first_message : Option Speculated → List ℕ → List ℕ → List ℕ
client_first_message None username nonce = open_message username nonce
client_first_message (Some speculated) username nonce = speculated.message

abbrev pub client_first_nonce : Option Speculated → List ℕ → List ℕ
client_first_nonce None nonce = nonce
client_first_nonce (Some speculated) nonce = speculated.nonce

abbrev pub message_by : Handed → User → List ℕ
message_by handed user = client_first_message handed.speculated user.username handed.nonce

abbrev pub nonce_by : Handed → List ℕ
nonce_by handed = client_first_nonce handed.speculated handed.nonce

-- ---- what it derives

-- the user, and what the server's first message asks of it
pub record Challenge : Type 0 where
  pub user : User
  pub first : ServerFirst

abbrev pub salted_by : Handed → Challenge → List ℕ
salted_by handed c = salted handed.version c.user.username c.user.password c.first.salt c.first.i

-- `AuthMessage`; the client's first message begins with its GS2 header, three bytes
abbrev pub auth_message_by : Handed → Challenge → List ℕ
auth_message_by handed c = transcript (drop 3 (message_by handed c.user)) c.first.message c.first.nonce

-- the client's last message, and the verifier that the server owes
abbrev pub close_by : Handed → Challenge → List ℕ
close_by handed c = close_message (digest_of handed.version) (salted_by handed c) (auth_message_by handed c) c.first.nonce

abbrev pub verifier_by : Handed → Challenge → List ℕ
verifier_by handed c = verifier (digest_of handed.version) (salted_by handed c) (auth_message_by handed c)

-- ---- the plan

abbrev pub start_said : Handed → User → Said
start_said handed user = record { maximum = handed.maximum; document = command_document (first_command handed.version false user.source (message_by handed user) handed.server_api) }

abbrev pub close_said : Handed → Challenge → Said
close_said handed c = record { maximum = handed.maximum; document = command_document (final_command c.first.conversation_id c.user.source (close_by handed c) handed.server_api) }

-- why a client of this nonce and ceiling doesn't go on from the server's first message: its rows, and then those of the
-- password
abbrev pub AnswerRow : ServerFirst → List ℕ → ℕ → ScramVersion → List ℕ → ErrorKind → Type 0
AnswerRow first nonce max_iterations version password = or_else (ServerFirstRow first nonce max_iterations) (PasswordRow version password)

abbrev pub ChallengeRow : Handed → Challenge → ErrorKind → Type 0
ChallengeRow handed c = AnswerRow c.first (nonce_by handed) handed.max_iterations handed.version c.user.password

-- after the reply with the server's first message
abbrev pub challenged : Handed → User → List ℕ → Plan Challenge
challenged handed user reply =
    unless (FirstReplyRow reply) (reading (CarriesFirst reply) (λ first.
    let c : Challenge = record { user = user; first = first } in
    unless (ChallengeRow handed c) (ending c)))

-- a first round that went with the hello isn't said again
abbrev pub opened : Option Speculated → Handed → User → Plan Challenge
opened None handed user = saying (start_said handed user) (challenged handed user)
opened (Some speculated) handed user = challenged handed user speculated.reply

-- where it ends, the key is derived
abbrev pub opening : Handed → Plan Challenge
opening handed = unless (CredentialRow handed.credential) (reading (IsUser handed.credential) (opened handed.speculated handed))

abbrev pub NotCompletedRow : ServerFinal → ErrorKind → Type 0
NotCompletedRow last kind = (kind ≡ Authentication NotCompleted) × (last.done ≡ false)

-- why the server's last message isn't taken in this conversation, by the verifier that is owed
abbrev pub LastMessageRow : OwnedValue → List ℕ → ServerFinal → ErrorKind → Type 0
LastMessageRow conversation owed last = or_else (ServerFinalRow last conversation owed) (NotCompletedRow last)

-- after the reply with it
abbrev pub last_heard : OwnedValue → List ℕ → Challenge → List ℕ → Plan Challenge
last_heard conversation owed c reply =
    unless (FinalReplyRow reply) (reading (CarriesFinal reply) (λ last. unless (LastMessageRow conversation owed last) (ending c)))

-- what is left of a login by this challenge, once the client's last message is made
abbrev pub last_exchange : Said → OwnedValue → List ℕ → Challenge → Plan Challenge
last_exchange said conversation owed c = saying said (last_heard conversation owed c)

-- the same by what the login was handed
abbrev pub LastRow : Handed → Challenge → ServerFinal → ErrorKind → Type 0
LastRow handed c = LastMessageRow c.first.conversation_id (verifier_by handed c)

abbrev pub closed : Handed → Challenge → List ℕ → Plan Challenge
closed handed c = last_heard c.first.conversation_id (verifier_by handed c) c

abbrev pub closing : Handed → Challenge → Plan Challenge
closing handed c = last_exchange (close_said handed c) c.first.conversation_id (verifier_by handed c) c

abbrev pub scram_plan : Handed → Plan Challenge
scram_plan handed = followed_by (opening handed) (closing handed)
