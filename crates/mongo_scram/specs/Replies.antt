-- What the replies to a SCRAM login's commands say: a SASL reply whose payload is a message of the server.
use Rattle.std.specs.Prelude.{◌≡◌, ℕ, List}
use Rattle.mongo_wire.specs.declared.error.ErrorKind.{ErrorKind}
use Rattle.mongo_wire.specs.declared.error.ErrorKind.TheVariants.{Authentication}
use Rattle.mongo_wire.specs.declared.auth_fault.AuthFault.TheVariants.{Malformed}
use Rattle.mongo_command.specs.Conversation.{or_else, row_for, row_of}
use Rattle.mongo_sasl.specs.declared.sasl_response.SaslResponse.{SaslResponse}
use Rattle.mongo_sasl.specs.Reply.{IsSaslReply, SaslRow}
use Rattle.mongo_scram.specs.declared.server_first.ServerFirst.{ServerFirst}
use Rattle.mongo_scram.specs.declared.server_final.ServerFinal.{ServerFinal}
use Rattle.mongo_scram.specs.declared.server_final.ServerFinalBody.{ServerFinalBody}
use Rattle.mongo_scram.specs.ServerMessages.{IsServerFirst, IsIterationCount, ServerFirstTextRow, SaysFinal}

-- ---- the server's first message

-- the reply carries this server first message
pub record CarriesFirst (reply : List ℕ) (first : ServerFirst) : Type 0 where
  pub sasl : SaslResponse
  pub is_reply : IsSaslReply reply sasl
  pub conversation : first.conversation_id ≡ sasl.conversation_id
  pub done : first.done ≡ sasl.done
  pub message : first.message ≡ sasl.payload
  pub count : List ℕ
  pub is_first : IsServerFirst sasl.payload first.nonce first.salt count
  pub is_count : IsIterationCount count first.i

-- the reply reads, and its payload is no server first message
abbrev pub FirstPayloadRow : List ℕ → ErrorKind → Type 0
FirstPayloadRow reply = row_of Authentication (λ fault. (sasl : SaslResponse) × IsSaslReply reply sasl × ServerFirstTextRow sasl.payload fault)

-- why it carries none: the row of the reply, else that of the message
abbrev pub FirstReplyRow : List ℕ → ErrorKind → Type 0
FirstReplyRow reply = or_else (SaslRow reply) (FirstPayloadRow reply)

-- ---- the server's last message

-- the reply carries this server final message
pub record CarriesFinal (reply : List ℕ) (last : ServerFinal) : Type 0 where
  pub sasl : SaslResponse
  pub is_reply : IsSaslReply reply sasl
  pub conversation : last.conversation_id ≡ sasl.conversation_id
  pub done : last.done ≡ sasl.done
  pub says : SaysFinal sasl.payload last.body

-- the reply reads, and its payload is no server final message
abbrev pub FinalPayloadRow : List ℕ → ErrorKind → Type 0
FinalPayloadRow reply = row_for (Authentication Malformed) ((sasl : SaslResponse) × IsSaslReply reply sasl × ((body : ServerFinalBody) → SaysFinal sasl.payload body → ⊥))

-- why it carries none: the row of the reply, else that of the message
abbrev pub FinalReplyRow : List ℕ → ErrorKind → Type 0
FinalReplyRow reply = or_else (SaslRow reply) (FinalPayloadRow reply)
