-- Why a reply carries no message of the server, from why it wasn't read.
use Rattle.std.proofs.Common.{◌≡◌, ◌⊎◌, ℕ, List, Result, Ok, Err, IfErr, refl, sym, subst, inl, inr}
use Rattle.std.specs.Result.{IsErrAnd}
use Rattle.std.specs.Str.{IsUtf8}
use Rattle.mongo_wire.specs.declared.auth_fault.AuthFault.TheVariants.{Malformed}
use Rattle.mongo_wire.specs.declared.error.Error.{Error}
use Rattle.mongo_wire.specs.declared.error.ErrorKind.{ErrorKind}
use Rattle.mongo_wire.specs.declared.error.ErrorKind.TheVariants.{Authentication, OutOfMemory}
use Rattle.mongo_command.specs.Conversation.{or_else}
use Rattle.mongo_sasl.specs.declared.sasl_response.SaslResponse.{SaslResponse}
use Rattle.mongo_sasl.specs.Reply.{IsSaslReply, SaslRow, SaslRefused}
use Rattle.mongo_sasl.proofs.OneReply.{sasl_reply_no_row}
use Rattle.mongo_scram.specs.declared.server_final.ServerFinalBody.{ServerFinalBody}
use Rattle.mongo_scram.specs.Parsed.{FirstRefused, ServerFinalUnread}
use Rattle.mongo_scram.specs.ServerMessages.{ServerFirstTextRow, SaysFinal}
use Rattle.mongo_scram.specs.Replies.{FirstReplyRow, FinalReplyRow}

-- an error that is handed on
pub row_handed_on : {T : Type 0} (r : Result T Error) (e : Error) (Row : ErrorKind → Type 0) → IsErrAnd r (λ x. x ≡ e) → Row e.kind → IfErr r (λ x. Row x.kind)
row_handed_on (Ok t) e Row is row = tt
row_handed_on (Err x) e Row is row = subst (λ (y : Error). Row y.kind) (sym is) row

pub fault_handed_on : {T : Type 0} (r : Result T Error) (kind : ErrorKind) (Row : ErrorKind → Type 0) → IsErrAnd r (λ x. x.kind ≡ kind) → Row kind → IfErr r (λ x. Row x.kind)
fault_handed_on (Ok t) kind Row is row = tt
fault_handed_on (Err x) kind Row is row = subst Row (sym is) row

-- a reply that says nothing carries no message
pub reply_refused : (reply : List ℕ) (later : ErrorKind → Type 0) (kind : ErrorKind) → SaslRefused reply kind → or_else (SaslRow reply) later kind ⊎ (kind ≡ OutOfMemory)
reply_refused reply later kind (inl row) = inl (inl row)
reply_refused reply later kind (inr is) = inr is

pub first_reply_refused : (reply : List ℕ) (sasl : SaslResponse) (kind : ErrorKind) → IsSaslReply reply sasl → FirstRefused sasl.payload kind → FirstReplyRow reply kind ⊎ (kind ≡ OutOfMemory)
first_reply_refused reply sasl (Authentication fault) is row = inl (inr (sasl_reply_no_row reply sasl is, (fault, refl, (sasl, is, row))))
first_reply_refused reply sasl OutOfMemory is row = inr refl
first_reply_refused reply sasl kind is row = absurd row

-- bytes that are no text are no message
pub first_without_text : (payload : List ℕ) → (IsUtf8 payload → ⊥) → ServerFirstTextRow payload Malformed
first_without_text payload none = inl (refl, λ nonce salt count is. none is.text)

pub final_refused : (reply : List ℕ) (sasl : SaslResponse) (kind : ErrorKind) → IsSaslReply reply sasl → ServerFinalUnread sasl.payload kind → FinalReplyRow reply kind ⊎ (kind ≡ OutOfMemory)
final_refused reply sasl (Authentication Malformed) is row = inl (inr (sasl_reply_no_row reply sasl is, (refl, (sasl, is, row))))
final_refused reply sasl OutOfMemory is row = inr refl
final_refused reply sasl (Authentication fault) is row = absurd row
final_refused reply sasl kind is row = absurd row

pub final_without_text : (payload : List ℕ) → (IsUtf8 payload → ⊥) → (body : ServerFinalBody) → SaysFinal payload body → ⊥
final_without_text payload none body is = none is.0
