-- The exchanges of a login, and the derivation between them.
use Rattle.std.specs.Prelude.{◌≡◌, ℕ, ℤ, ◌⊎◌, Option, None, Some, option_copied, List}
use Rattle.mongo_bson.specs.declared.owned_value.OwnedValue.{OwnedValue}
use Rattle.mongo_wire.specs.declared.error.ErrorKind.{ErrorKind}
use Rattle.mongo_wire.specs.declared.frame_buffer.FrameBuffer.{FrameBuffer}
use Rattle.mongo_wire.specs.Buffer.{frames_taken, held_document, IsFrameTaken}
use Rattle.mongo_wire.specs.Outside.{State, risen}
use Rattle.mongo_command.specs.declared.connection.Connection.{Connection}
use Rattle.mongo_command.specs.Command.{command_document}
use Rattle.mongo_command.specs.Connection.{kept_fault}
use Rattle.mongo_command.specs.Exchange.{Exchanges, CountsStay, Point}
use Rattle.mongo_command.specs.Conversation.{Said, plain_message}
use Rattle.mongo_sasl.specs.EndsByScript.{Standing, point_at}
use Rattle.mongo_sasl.specs.Login.{EndsByReply}
use Rattle.mongo_scram.specs.declared.cache.SaltedKey.{SaltedKey}
use Rattle.mongo_scram.specs.declared.first_round.FirstRound.{FirstRound}
use Rattle.mongo_scram.specs.declared.messages.ClientFinal.{ClientFinal}
use Rattle.mongo_scram.specs.declared.login.ScramLogin.{ScramLogin}
use Rattle.mongo_scram.specs.declared.login.Opened.{Opened}
use Rattle.mongo_scram.specs.declared.server_first.ServerFirst.{ServerFirst}
use Rattle.mongo_scram.specs.declared.server_final.ServerFinal.{ServerFinal}
use Rattle.mongo_scram.specs.Base64.{base64_of}
use Rattle.mongo_scram.specs.Client.{message_of, nonce_of, handed_to, final_of, final_conversation, final_source_of, final_api_of}
use Rattle.mongo_scram.specs.Commands.{final_command}
use Rattle.mongo_scram.specs.Costs.{Ledgers, Derives, SameEntries, CarriesValidFinal}
use Rattle.mongo_scram.specs.Entry.{salted_of, IsUsable}
use Rattle.mongo_scram.specs.Plan.{Speculated, Handed, Challenge, message_by, nonce_by, start_said, LastMessageRow, last_exchange}
use Rattle.mongo_scram.specs.Replies.{CarriesFirst, CarriesFinal, FinalReplyRow}
use Rattle.mongo_scram.specs.User.{User}
use Rattle.mongo_scram.specs.Validity.{IsValidFirst}

-- what a login is handed, with a first round or without, over a link of this maximum
abbrev pub handed_by : ScramLogin → Option FirstRound → ℤ → Handed
handed_by login round maximum = handed_to login.version login.credential.now (option_copied login.server_api) round (base64_of login.nonce.now) login.max_iterations maximum

-- ---- an exchange

-- What one exchange leaves: its connection keeps no fault, and kept none before it, and its reply passed through the buffer.
pub record LeavesOneExchange (old new : Connection) (before after : FrameBuffer) : Type 0 where
  pub was : kept_fault old ≡ None
  pub is : kept_fault new ≡ None
  pub frames : frames_taken after ≡ risen (frames_taken before)

-- ---- the first exchange

-- the reply to the client's first message: that of a first round that went with the hello, or that of an exchange
abbrev pub Replies : Option Speculated → Said → List ℕ → Point → Point → Type 0
Replies None said reply old new = Exchanges said.maximum (plain_message said.document) old new reply × CountsStay old.state new.state
Replies (Some speculated) said reply old new = (reply ≡ speculated.reply) × (new.state ≡ old.state) × (new.id ≡ old.id)

-- the client's first message was answered by the server's
pub record Opens (handed : Handed) (user : User) (opened : Opened) (old new : Point) : Type 0 where
  pub message : message_of opened.client_first ≡ message_by handed user
  pub nonce : nonce_of opened.client_first ≡ nonce_by handed
  pub reply : List ℕ
  pub replied : Replies handed.speculated (start_said handed user) reply old new
  pub carries : CarriesFirst reply opened.server_first

-- the count of a buffer's frames after it
abbrev pub frames_opened : Option FirstRound → ℕ → ℕ
frames_opened None frames = risen frames
frames_opened (Some round) frames = frames

-- ---- the derivation

-- A client of this nonce and ceiling goes on from the message, by the salted password of its key, which was derived where
-- it had no entry.
pub record IsAnswered (first : ServerFirst) (nonce : List ℕ) (max_iterations : ℕ) (key : SaltedKey) (tag : List ℕ) (old new : Ledgers) : Type 0 where
  pub valid : IsValidFirst first nonce max_iterations
  pub usable : IsUsable key
  pub tag_is : tag ≡ salted_of key
  pub derived : Derives key old new
  pub entries : SameEntries old new

-- ---- the last exchange

-- the command of the client's last message
abbrev pub final_said : ClientFinal → ℤ → Said
final_said final maximum = record { maximum = maximum; document = command_document (final_command (final_conversation final) (final_source_of final) (final_of final) (final_api_of final)) }

-- The last exchange was made, whatever the challenge: its reply, whose frame the buffer holds, carries a message that is taken.
pub record EndsLastExchange {L : Type 0} (state : L → State) (said : Said) (conversation : OwnedValue) (owed : List ℕ) (old new : Standing L) : Type 0 where
  pub taken : IsFrameTaken said.maximum (state old.link) (state new.link) new.buffer
  pub ends : (c : Challenge) → EndsByReply (last_exchange said conversation owed c) c (held_document new.buffer) (point_at state old) (point_at state new)
  pub message : CarriesValidFinal conversation owed (held_document new.buffer)

-- why it carries none that is: the row of the reply, else that of the message
abbrev pub LastRefusal : OwnedValue → List ℕ → List ℕ → ErrorKind → Type 0
LastRefusal conversation owed document kind = FinalReplyRow document kind ⊎ ((last : ServerFinal) × CarriesFinal document last × LastMessageRow conversation owed last kind)
