-- What the readers of the client's messages answer.
use Rattle.std.specs.Prelude.{◌≡◌, ℕ, List, ⊤}
use Rattle.mongo_scram.specs.UserName.{escaped}
use Rattle.mongo_server.specs.declared.fault.ServerFault.{ServerFault}
use Rattle.mongo_server.specs.declared.fault.ServerFault.TheVariants.{Malformed, OutOfMemory}
use Rattle.mongo_server.specs.declared.parse.ClientFirstParts.{ClientFirstParts}
use Rattle.mongo_server.specs.declared.parse.ClientFinalParts.{ClientFinalParts}
use Rattle.mongo_scram.specs.Messages.{bare_message}
use Rattle.mongo_server.specs.ClientMessages.{IsClientFirst, IsClientFinal}

-- what the first message says
pub record HoldsClientFirst (message : List ℕ) (first : ClientFirstParts) : Type 0 where
  pub username : List ℕ
  pub is_first : IsClientFirst message username first.nonce.now
  pub saslname_is : first.saslname.now ≡ escaped username
  pub bare_is : first.bare.now ≡ bare_message username first.nonce.now

-- what the last message says
abbrev pub HoldsClientFinal : List ℕ → ClientFinalParts → Type 0
HoldsClientFinal message last = IsClientFinal message last.nonce.now last.proof

-- why nothing was read: it is no last message, or memory ran out
abbrev pub ClientFinalUnread : List ℕ → ServerFault → Type 0
ClientFinalUnread message Malformed = (nonce proof : List ℕ) → IsClientFinal message nonce proof → ⊥
ClientFinalUnread message OutOfMemory = ⊤
ClientFinalUnread message fault = ⊥
