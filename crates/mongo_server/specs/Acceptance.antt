-- A client accepts the server of its authentication: with the server's messages as payloads, its login is a conversation of
-- `mongo_scram` from the first reply on.
use Rattle.std.specs.Prelude.{◌≡◌, ℕ, ◌≤◌, true, false, List}
use Rattle.mongo_bson.specs.declared.owned_value.OwnedValue.{OwnedValue}
use Rattle.mongo_wire.specs.declared.error.ErrorKind.{ErrorKind}
use Rattle.mongo_sasl.specs.Reply.{IsSaslReply}
use Rattle.mongo_scram.specs.Key.{PasswordRow}
use Rattle.mongo_scram.specs.Plan.{Handed, Challenge, message_by, nonce_by, close_by, close_said}
use Rattle.mongo_scram.specs.Script.{IsConversation}
use Rattle.mongo_scram.specs.User.{User}
use Rattle.mongo_scram.specs.Validity.{least_count}
use Rattle.mongo_server.specs.Authentication.{Authentication, joined_of, open_of, first_of, close_of}

-- the client of an authentication: it logs in as the user, has said the authentication's first message with its nonce, and derives by
-- as many iterations as the count says; the count and the password are such as a client takes
pub record IsClientOf (x : Authentication) (handed : Handed) (user : User) : Type 0 where
  pub version : handed.version ≡ x.version
  pub username : user.username ≡ x.username
  pub password : user.password ≡ x.password
  pub said : message_by handed user ≡ open_of x
  pub nonce : nonce_by handed ≡ x.nonce
  pub enough : least_count ≤ x.count
  pub within : x.count ≤ handed.max_iterations
  pub usable : (kind : ErrorKind) → PasswordRow x.version x.password kind → ⊥

-- two replies of one conversation carry these payloads, and the second ends it
pub record CarryPayloads (conversation_id : OwnedValue) (first last first_reply last_reply : List ℕ) : Type 0 where
  pub first_carried : IsSaslReply first_reply (record { conversation_id = conversation_id; done = false; payload = first })
  pub last_carried : IsSaslReply last_reply (record { conversation_id = conversation_id; done = true; payload = last })

-- what the server's first message asks of the client
abbrev pub challenge_of : Authentication → OwnedValue → User → Challenge
challenge_of x conversation_id user = record { user = user; first = record { conversation_id = conversation_id; done = false; message = first_of x; nonce = joined_of x; salt = x.salt; i = x.count } }

-- the client says the authentication's last message, and its login is accepted
pub record IsAccepted (x : Authentication) (handed : Handed) (user : User) (conversation_id : OwnedValue) (first_reply last_reply : List ℕ) : Type 0 where
  pub closes : close_by handed (challenge_of x conversation_id user) ≡ close_of x
  pub conversation : IsConversation handed user first_reply (close_said handed (challenge_of x conversation_id user)).document last_reply

-- whatever replies carry the server's first message and this last one, each client of the authentication accepts
abbrev pub Accepts : Authentication → List ℕ → Type 0
Accepts x last =
    (handed : Handed) (user : User) (conversation_id : OwnedValue) (first_reply last_reply : List ℕ) → IsClientOf x handed user → CarryPayloads conversation_id (first_of x) last first_reply last_reply → IsAccepted x handed user conversation_id first_reply last_reply
