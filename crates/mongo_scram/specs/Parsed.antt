-- What the readers of the server's messages answer.
use Rattle.std.specs.Prelude.{ℕ, List, ⊤}
use Rattle.mongo_wire.specs.declared.error.ErrorKind.{ErrorKind}
use Rattle.mongo_wire.specs.declared.error.ErrorKind.TheVariants.{Authentication, OutOfMemory}
use Rattle.mongo_wire.specs.declared.auth_fault.AuthFault.TheVariants.{Malformed}
use Rattle.mongo_scram.specs.declared.server_final.ServerFinalBody.{ServerFinalBody}
use Rattle.mongo_scram.specs.declared.parse.ServerFirstParts.{ServerFirstParts}
use Rattle.mongo_scram.specs.ServerMessages.{IsServerFirst, IsIterationCount, ServerFirstTextRow, SaysFinal}

-- what the message says
pub record HoldsServerFirst (message : List ℕ) (first : ServerFirstParts) : Type 0 where
  pub count : List ℕ
  pub is_first : IsServerFirst message first.nonce.now first.salt count
  pub is_count : IsIterationCount count first.i

-- why nothing was read: a row of the message, or want of memory
abbrev pub FirstRefused : List ℕ → ErrorKind → Type 0
FirstRefused message (Authentication fault) = ServerFirstTextRow message fault
FirstRefused message OutOfMemory = ⊤
FirstRefused message kind = ⊥

-- why it says nothing: it is no server final message, or memory ran out
abbrev pub ServerFinalUnread : List ℕ → ErrorKind → Type 0
ServerFinalUnread message (Authentication Malformed) = (body : ServerFinalBody) → SaysFinal message body → ⊥
ServerFinalUnread message OutOfMemory = ⊤
ServerFinalUnread message kind = ⊥
