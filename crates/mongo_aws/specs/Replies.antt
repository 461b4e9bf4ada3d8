-- The reply that carries the server's first message.
use Rattle.std.specs.Prelude.{◌≡◌, ℕ, List}
use Rattle.mongo_wire.specs.declared.error.ErrorKind.{ErrorKind}
use Rattle.mongo_wire.specs.declared.error.ErrorKind.TheVariants.{Authentication}
use Rattle.mongo_wire.specs.declared.auth_fault.AuthFault.TheVariants.{Malformed}
use Rattle.mongo_command.specs.Conversation.{HasNone, or_else, row_for}
use Rattle.mongo_sasl.specs.declared.sasl_response.SaslResponse.{SaslResponse}
use Rattle.mongo_sasl.specs.Reply.{IsSaslReply, SaslRow}
use Rattle.mongo_aws.specs.declared.server_first.ServerFirst.{ServerFirst}
use Rattle.mongo_aws.specs.ServerMessage.{Said, IsServerMessage}

-- what the message says
abbrev pub said_by : ServerFirst → Said
said_by first = record { server_nonce = first.server_nonce; sts_host = first.sts_host }

-- the reply carries this message
pub record CarriesFirst (reply : List ℕ) (first : ServerFirst) : Type 0 where
  pub sasl : SaslResponse
  pub is_reply : IsSaslReply reply sasl
  pub conversation : first.conversation_id ≡ sasl.conversation_id
  pub done : first.done ≡ sasl.done
  pub message : IsServerMessage sasl.payload (said_by first)

-- the reply reads, and its payload is no such message
abbrev pub FirstPayloadRow : List ℕ → ErrorKind → Type 0
FirstPayloadRow reply = row_for (Authentication Malformed) ((sasl : SaslResponse) × IsSaslReply reply sasl × HasNone (IsServerMessage sasl.payload))

-- why it carries none: the row of the reply, else that of the payload
abbrev pub FirstReplyRow : List ℕ → ErrorKind → Type 0
FirstReplyRow reply = or_else (SaslRow reply) (FirstPayloadRow reply)
