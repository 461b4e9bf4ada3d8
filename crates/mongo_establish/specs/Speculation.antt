-- The login that goes with a hello, by the handshake specification (speculative authentication): which credentials send it,
-- and its document.
use Rattle.std.specs.Prelude.{◌≡◌, ℕ, true, Option, None, Some, unwrap_or, List, [], ⊤}
use Rattle.mongo_wire.specs.declared.error.ErrorKind.{ErrorKind}
use Rattle.mongo_wire.specs.declared.error.ErrorKind.TheVariants.{Authentication}
use Rattle.mongo_wire.specs.declared.auth_fault.AuthFault.TheVariants.{MongoDbCr as MongoDbCrFault}
use Rattle.mongo_command.specs.Command.{admin}
use Rattle.mongo_sasl.specs.declared.credential.Credential.{Credential}
use Rattle.mongo_sasl.specs.declared.mechanism.AuthMechanism.{AuthMechanism}
use Rattle.mongo_sasl.specs.declared.mechanism.AuthMechanism.TheVariants.{MongoDbCr, ScramSha256}
use Rattle.mongo_sasl.specs.X509.{x509_body}
use Rattle.mongo_scram.specs.declared.scram_version.ScramVersion.{ScramVersion}
use Rattle.mongo_scram.specs.Base64.{base64_of}
use Rattle.mongo_scram.specs.Commands.{first_body}
use Rattle.mongo_scram.specs.Messages.{open_message}
use Rattle.mongo_scram.specs.User.{CredentialRow}
use Rattle.mongo_establish.specs.declared.conversation.Conversation.{Conversation}
use Rattle.mongo_establish.specs.declared.conversation.Conversation.TheVariants.{Scram, X509}
use Rattle.mongo_establish.specs.Spoken.{conversation_of, IsSpoken}

-- the mechanism that a login begins with before the server has said which it knows
abbrev pub mechanism_before : Option AuthMechanism → AuthMechanism
mechanism_before None = ScramSha256
mechanism_before (Some mechanism) = mechanism

-- Why a conversation's first message can't be made for a credential: for SCRAM it has to have a user name and a password and
-- no properties.
abbrev pub ConversationRow : Option Conversation → Credential → ErrorKind → Type 0
ConversationRow (Some (Scram version)) credential kind = CredentialRow credential kind
ConversationRow conversation credential kind = ⊥

-- Why a hello can't be made for a credential: MONGODB-CR has no login here.
abbrev pub MechanismRow : AuthMechanism → Credential → ErrorKind → Type 0
MechanismRow MongoDbCr credential kind = kind ≡ Authentication MongoDbCrFault
MechanismRow mechanism credential kind = ConversationRow (conversation_of mechanism) credential kind

abbrev pub HelloRow : Option Credential → ErrorKind → Type 0
HelloRow None kind = ⊥
HelloRow (Some credential) kind = MechanismRow (mechanism_before credential.mechanism) credential kind

-- the client's first message that goes with a hello, and the nonce in it
abbrev pub speculative_nonce : List ℕ → List ℕ
speculative_nonce nonce = base64_of nonce

abbrev pub speculative_message : Credential → List ℕ → List ℕ
speculative_message credential nonce = open_message (unwrap_or credential.username []) (speculative_nonce nonce)

abbrev pub scram_speculation : ScramVersion → Credential → List ℕ → List ℕ
scram_speculation version credential nonce = first_body version true (unwrap_or credential.source admin) (speculative_message credential nonce)

-- the document that goes with a hello: that of SCRAM's first message, which names the user's database too, or the body of
-- X.509's one command
abbrev pub speculation_in : Option Conversation → Credential → List ℕ → Option (List ℕ)
speculation_in (Some (Scram version)) credential nonce = Some (scram_speculation version credential nonce)
speculation_in (Some X509) credential nonce = Some (x509_body credential.username)
speculation_in conversation credential nonce = None

abbrev pub speculation_by : AuthMechanism → Credential → List ℕ → Option (List ℕ)
speculation_by mechanism credential nonce = speculation_in (conversation_of mechanism) credential nonce

abbrev pub speculation : Option Credential → List ℕ → Option (List ℕ)
speculation None nonce = None
speculation (Some credential) nonce = speculation_by (mechanism_before credential.mechanism) credential nonce

-- what a reply says to it: nothing counts where nothing was sent
abbrev pub answer_to : Option (List ℕ) → Option (List ℕ) → Option (List ℕ)
answer_to None reply = None
answer_to (Some sent) reply = reply

-- what is left of it in the reply: all of it where nothing was sent
abbrev pub left_in : Option (List ℕ) → Option (List ℕ) → Option (List ℕ)
left_in None reply = reply
left_in (Some sent) reply = None

-- the mechanism that it begins with is spoken
abbrev pub SpeaksFor : Option Credential → Type 0
SpeaksFor None = ⊤
SpeaksFor (Some credential) = IsSpoken (mechanism_before credential.mechanism)
