-- What a server holds, what it answers, and why it refuses.
use Rattle.std.specs.Prelude.{◌≡◌, ◌≢◌, ◌⊎◌, ℕ, Option, None, Some, IsSome, List, ◌++◌}
use Rattle.base64.specs.GeneralPurpose.{IsBytes}
use Rattle.mongo_command.specs.Conversation.{or_else, row_for}
use Rattle.mongo_scram.specs.Keys.{proof_under, verifier_under}
use Rattle.mongo_scram.specs.Messages.{bare_message, transcript}
use Rattle.mongo_server.specs.declared.fault.ServerFault.{ServerFault}
use Rattle.mongo_server.specs.declared.fault.ServerFault.TheVariants.{Malformed, UnknownUser, Nonce, Proof, NotStarted, OutOfMemory}
use Rattle.mongo_server.specs.declared.parse.ClientFirstParts.{ClientFirstParts}
use Rattle.mongo_server.specs.declared.server_core.ServerCore.{ServerCore}
use Rattle.mongo_server.specs.declared.server_core.ServerConversation.{ServerConversation}
use Rattle.mongo_server.specs.declared.user.ServerUser.{ServerUser}
use Rattle.mongo_server.specs.ClientMessages.{IsNonce, IsClientFirst, IsClientFinal}
use Rattle.mongo_server.specs.Authentication.{Authentication, joined_of, auth_message_between}
use Rattle.mongo_server.specs.ServerTexts.{server_first, server_final}
use Rattle.mongo_server.specs.User.{IsUserOf}

-- ---- what it holds

abbrev pub server_user : ServerCore → ServerUser
server_user core = core.user

abbrev pub username_of : ServerCore → List ℕ
username_of core = core.user.username

abbrev pub salt_of : ServerCore → List ℕ
salt_of core = core.user.salt

abbrev pub suffix_of : ServerCore → List ℕ
suffix_of core = core.suffix

-- the conversation that was begun last
abbrev pub held_conversation : ServerCore → Option ServerConversation
held_conversation core = core.conversation

-- ---- what it answers

abbrev pub joined_by : ServerCore → List ℕ → List ℕ
joined_by core nonce = nonce ++ core.suffix

-- its first message to a client of this nonce
abbrev pub first_by : ServerCore → List ℕ → List ℕ
first_by core nonce = server_first (joined_by core nonce) core.user.salt core.user.count

-- the conversation with that client
abbrev pub conversation_by : ServerCore → List ℕ → ServerConversation
conversation_by core nonce = record { nonce = joined_by core nonce; auth_message = transcript (bare_message core.user.username nonce) (first_by core nonce) (joined_by core nonce) }

-- a client of this nonce is answered by the text, and its conversation is held from then on
pub record BeginsConversation (core : ServerCore) (nonce text : List ℕ) (new : ServerCore) : Type 0 where
  pub text_is : text ≡ first_by core nonce
  pub begun : held_conversation new ≡ Some (conversation_by core nonce)
  pub user : server_user new ≡ server_user core
  pub suffix : suffix_of new ≡ suffix_of core

-- the client's first message, of the user, and what it says
pub record HearsClientFirst (core : ServerCore) (message : List ℕ) (first : ClientFirstParts) : Type 0 where
  pub is_first : IsClientFirst message (username_of core) first.nonce.now
  pub bare_is : first.bare.now ≡ bare_message (username_of core) first.nonce.now

-- the text is the last message that it owes in its conversation
abbrev pub IsOwed : ServerCore → List ℕ → Type 0
IsOwed core text = (held : ServerConversation) × (held_conversation core ≡ Some held) × (text ≡ server_final (verifier_under core.user.keys held.auth_message))

-- the message is a client's last one, with the joined nonce and the proof that the client owes
abbrev pub IsValidClientFinal : ServerCore → List ℕ → Type 0
IsValidClientFinal core message = (held : ServerConversation) × (held_conversation core ≡ Some held) × IsClientFinal message held.nonce (proof_under core.user.keys held.auth_message)

-- ---- why it refuses: the first row that applies

abbrev pub ClientFirstRow : ServerCore → List ℕ → ServerFault → Type 0
ClientFirstRow core message =
    or_else (row_for Malformed ((username nonce : List ℕ) → IsClientFirst message username nonce → ⊥))
    (row_for UnknownUser ((username : List ℕ) × (nonce : List ℕ) × IsClientFirst message username nonce × (username ≢ username_of core)))

abbrev pub ClientFinalRow : ServerCore → List ℕ → ServerFault → Type 0
ClientFinalRow core message =
    or_else (row_for NotStarted (held_conversation core ≡ None))
    (or_else (row_for Malformed ((nonce proof : List ℕ) → IsClientFinal message nonce proof → ⊥))
    (or_else (row_for Nonce ((held : ServerConversation) × (held_conversation core ≡ Some held) × ((nonce : List ℕ) × (proof : List ℕ) × IsClientFinal message nonce proof × (nonce ≢ held.nonce))))
    (row_for Proof ((held : ServerConversation) × (held_conversation core ≡ Some held) × ((proof : List ℕ) × IsClientFinal message held.nonce proof × (proof ≢ proof_under core.user.keys held.auth_message))))))

-- the same, with what is known where memory ran out: a conversation was held
abbrev pub ClientFinalRefused : ServerCore → List ℕ → ServerFault → Type 0
ClientFinalRefused core message fault = ClientFinalRow core message fault ⊎ row_for OutOfMemory (IsSome (held_conversation core)) fault

-- ---- the server of an authentication

-- it knows the user, and adds the suffix
pub record Serves (core : ServerCore) (x : Authentication) : Type 0 where
  pub user : IsUserOf x.version x.username x.password x.salt x.count (server_user core)
  pub suffix : suffix_of core ≡ x.suffix

-- its conversation is that of the authentication
pub record HasBegun (core : ServerCore) (x : Authentication) : Type 0 where
  pub serves : Serves core x
  pub printable : IsNonce x.nonce
  pub bytes : IsBytes x.salt
  pub held : held_conversation core ≡ Some (record { nonce = joined_of x; auth_message = auth_message_between x })
