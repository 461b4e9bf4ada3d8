-- The script of a SCRAM login, as whole lists: which commands are written and which replies are taken. It knows no buffer,
-- no cache and no order of steps.
use Rattle.std.specs.Prelude.{◌≡◌, ℕ, true, false, Option, None, Some, List, [], ◌∷◌, ◌++◌}
use Rattle.mongo_wire.specs.declared.error.ErrorKind.{ErrorKind}
use Rattle.mongo_sasl.specs.Reply.{IsSaslReply}
use Rattle.mongo_scram.specs.Attributes.{verifier_attribute}
use Rattle.mongo_scram.specs.Base64.{base64_of}
use Rattle.mongo_scram.specs.Key.{PasswordRow}
use Rattle.mongo_scram.specs.ServerMessages.{IsServerFirst, IsIterationCount}
use Rattle.mongo_scram.specs.Validity.{IsValidFirst}
use Rattle.mongo_scram.specs.User.{User, IsUser}
use Rattle.mongo_scram.specs.Plan.{Speculated, Handed, Challenge, nonce_by, start_said, close_said, verifier_by}

-- A conversation from the server's first message on: the reply that carries it, the command that answers it, and the
-- reply to that, which ends it with the verifier, all of it.
pub record IsConversation (handed : Handed) (user : User) (first_reply command last_reply : List ℕ) : Type 0 where
  pub challenge : Challenge
  pub is_user : challenge.user ≡ user
  -- the server's first message meets what the client demands of it
  pub goes_on : IsValidFirst challenge.first (nonce_by handed) handed.max_iterations
  pub replied : IsSaslReply first_reply (record { conversation_id = challenge.first.conversation_id; done = false; payload = challenge.first.message })
  pub count : List ℕ
  pub is_first : IsServerFirst challenge.first.message challenge.first.nonce challenge.first.salt count
  pub is_count : IsIterationCount count challenge.first.i
  -- the password is one that a key is derived from
  pub usable : (kind : ErrorKind) → PasswordRow handed.version user.password kind → ⊥
  -- the client proves the key, and the server does
  pub command_is : command ≡ (close_said handed challenge).document
  pub ended : IsSaslReply last_reply (record { conversation_id = challenge.first.conversation_id; done = true; payload = verifier_attribute ++ base64_of (verifier_by handed challenge) })

-- with a first round that went with the hello, one command and its reply are left; without one, there are two
abbrev pub IsLoginFrom : Option Speculated → Handed → User → List (List ℕ) → List (List ℕ) → Type 0
IsLoginFrom None handed user commands replies =
    (first close last : List ℕ) × (commands ≡ (start_said handed user).document ∷ close ∷ []) × (replies ≡ first ∷ last ∷ []) × IsConversation handed user first close last
IsLoginFrom (Some speculated) handed user commands replies =
    (close last : List ℕ) × (commands ≡ close ∷ []) × (replies ≡ last ∷ []) × IsConversation handed user speculated.reply close last

-- the commands and replies of a login of the credential's user
pub record IsScramLogin (handed : Handed) (commands replies : List (List ℕ)) : Type 0 where
  pub user : User
  pub is_user : IsUser handed.credential user
  pub login : IsLoginFrom handed.speculated handed user commands replies
