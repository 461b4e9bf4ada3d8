-- What a login's last exchange shows of its closing.
use Rattle.std.proofs.Common.{◌≡◌, ℕ, ℤ, refl, ap, ◌∙◌, subst, Option, List, drop}
use Rattle.mongo_bson.specs.declared.owned_value.OwnedValue.{OwnedValue}
use Rattle.mongo_wire.specs.declared.error.ErrorKind.{ErrorKind}
use Rattle.mongo_wire.specs.declared.frame_buffer.FrameBuffer.{FrameBuffer}
use Rattle.mongo_wire.specs.Buffer.{IsFrameTaken}
use Rattle.mongo_wire.specs.Outside.{State}
use Rattle.mongo_command.specs.Conversation.{Said, StoppedKeeping}
use Rattle.mongo_sasl.specs.Login.{EndsByReply}
use Rattle.mongo_sasl.specs.Stops.{RefusedAtOnce}
use Rattle.mongo_scram.specs.declared.scram_version.ScramVersion.{ScramVersion}
use Rattle.mongo_scram.specs.declared.messages.ClientFirst.{ClientFirst}
use Rattle.mongo_scram.specs.declared.messages.ClientFinal.{ClientFinal}
use Rattle.mongo_scram.specs.Client.{bare_of, message_of, final_of, auth_message_of, final_conversation, final_source_of, final_api_of}
use Rattle.mongo_scram.specs.Commands.{final_command}
use Rattle.mongo_command.specs.Command.{command_document}
use Rattle.mongo_command.specs.Exchange.{point}
use Rattle.mongo_scram.specs.Costs.{EndsLogin, CarriesValidFinal}
use Rattle.mongo_scram.specs.Messages.{transcript, close_message, verifier}
use Rattle.mongo_scram.specs.Plan.{Handed, Challenge, message_by, salted_by, auth_message_by, close_by, verifier_by, close_said, closing, last_exchange}
use Rattle.mongo_scram.specs.Login.{final_said}
use Rattle.mongo_scram.specs.Version.{digest_of}

-- the client's last message in answer to a challenge, by its salted password
pub record IsFinal (handed : Handed) (c : Challenge) (tag : List ℕ) (final : ClientFinal) : Type 0 where
  pub tag_is : tag ≡ salted_by handed c
  pub auth_message : auth_message_of final ≡ auth_message_by handed c
  pub message : final_of final ≡ close_by handed c
  pub conversation : final_conversation final ≡ c.first.conversation_id
  pub source : final_source_of final ≡ c.user.source
  pub api : final_api_of final ≡ handed.server_api

-- by what it was made of
pub final_by : (handed : Handed) (c : Challenge) (tag : List ℕ) (first : ClientFirst) (final : ClientFinal) → tag ≡ salted_by handed c → message_of first ≡ message_by handed c.user → auth_message_of final ≡ transcript (bare_of first) c.first.message c.first.nonce → final_of final ≡ close_message (digest_of handed.version) tag (auth_message_of final) c.first.nonce
    → final_conversation final ≡ c.first.conversation_id → final_source_of final ≡ c.user.source → final_api_of final ≡ handed.server_api → IsFinal handed c tag final
final_by handed c tag first final tag_is message auth_message message_is conversation source api =
    let auth : auth_message_of final ≡ auth_message_by handed c = auth_message ∙ ap (λ m. transcript (drop 3 m) c.first.message c.first.nonce) message in
    record {
      tag_is = tag_is;
      auth_message = auth;
      message = message_is ∙ (λ i. close_message (digest_of handed.version) (tag_is i) (auth i) c.first.nonce);
      conversation = conversation;
      source = source;
      api = api;
    }

-- what the last exchange says, the conversation that it is of, and the verifier that is owed in it
abbrev Closing : Type 0
Closing = Said × OwnedValue × List ℕ

abbrev closing_of : ScramVersion → List ℕ → ClientFinal → ℤ → Closing
closing_of version tag final maximum = (final_said final maximum, final_conversation final, verifier (digest_of version) tag (auth_message_of final))

-- they are those of the login
same_closing : (handed : Handed) (c : Challenge) (tag : List ℕ) (final : ClientFinal) (maximum : ℤ) → maximum ≡ handed.maximum → IsFinal handed c tag final → closing_of handed.version tag final maximum ≡ (close_said handed c, c.first.conversation_id, verifier_by handed c)
same_closing handed c tag final maximum same is =
    let salted = is.tag_is in
    let auth = is.auth_message in
    let conversation = is.conversation in
    let source = is.source in
    let message = is.message in
    let api = is.api in
    λ i. let said : Said = record { maximum = same i; document = command_document (final_command (conversation i) (source i) (message i) (api i)) } in (said, conversation i, verifier (digest_of handed.version) (salted i) (auth i))

pub closing_exchange_ends : (handed : Handed) (c : Challenge) (tag : List ℕ) (final : ClientFinal) (maximum : ℤ) (document : List ℕ) (old new : State) (before after : ℤ) → maximum ≡ handed.maximum → IsFinal handed c tag final
    → EndsByReply (last_exchange (final_said final maximum) (final_conversation final) (verifier (digest_of handed.version) tag (auth_message_of final)) c) c document (point old before) (point new after) → EndsByReply (closing handed c) c document (point old before) (point new after)
closing_exchange_ends handed c tag final maximum document old new before after same is = subst (λ (x : Closing). EndsByReply (last_exchange x.0 x.1 x.2 c) c document (point old before) (point new after)) (same_closing handed c tag final maximum same is)

pub closing_taken : (handed : Handed) (maximum : ℤ) (old new : State) (buffer : FrameBuffer) → maximum ≡ handed.maximum → IsFrameTaken maximum old new buffer → IsFrameTaken handed.maximum old new buffer
closing_taken handed maximum old new buffer same = subst (λ m. IsFrameTaken m old new buffer) same

-- a stop of the last exchange is one of the closing, and so is a refusal before it
pub closing_stopped : {kept : Option ErrorKind} (handed : Handed) (c : Challenge) (tag : List ℕ) (final : ClientFinal) (maximum : ℤ) (kind : ErrorKind) (old new : State) (before after : ℤ) → maximum ≡ handed.maximum → IsFinal handed c tag final
    → StoppedKeeping (last_exchange (final_said final maximum) (final_conversation final) (verifier (digest_of handed.version) tag (auth_message_of final)) c) kind (point old before) (point new after) kept → StoppedKeeping (closing handed c) kind (point old before) (point new after) kept
closing_stopped {kept = kept} handed c tag final maximum kind old new before after same is = subst (λ (x : Closing). StoppedKeeping (last_exchange x.0 x.1 x.2 c) kind (point old before) (point new after) kept) (same_closing handed c tag final maximum same is)

pub closing_refused : (handed : Handed) (c : Challenge) (tag : List ℕ) (final : ClientFinal) (maximum : ℤ) (kind : ErrorKind) → maximum ≡ handed.maximum → IsFinal handed c tag final
    → RefusedAtOnce (last_exchange (final_said final maximum) (final_conversation final) (verifier (digest_of handed.version) tag (auth_message_of final)) c) kind → RefusedAtOnce (closing handed c) kind
closing_refused handed c tag final maximum kind same is = subst (λ (x : Closing). RefusedAtOnce (last_exchange x.0 x.1 x.2 c) kind) (same_closing handed c tag final maximum same is)

-- the last reply ends the login
pub ends_login : (handed : Handed) (c : Challenge) (tag : List ℕ) (final : ClientFinal) (document : List ℕ) → IsFinal handed c tag final → CarriesValidFinal (final_conversation final) (verifier (digest_of handed.version) tag (auth_message_of final)) document → EndsLogin handed c document
ends_login handed c tag final document is = subst (λ (x : Closing). CarriesValidFinal x.1 x.2 document) (same_closing handed c tag final handed.maximum refl is)
