-- What a message comes to at a login that goes on, once the login was taken out of its session.
use Rattle.std.specs.Prelude.{◌≡◌, ℕ, true, Option, None, Some, List, []}
use Rattle.mongo_server.specs.Authentication.{Authentication, close_of, server_final_of}
use Rattle.mongo_server.specs.Server.{HasBegun, IsOwed, IsValidClientFinal}
use Rattle.mongo_session.specs.declared.reply.SaslReply.{SaslReply}
use Rattle.mongo_session.specs.declared.session.PendingLogin.{PendingLogin}
use Rattle.mongo_session.specs.declared.session.Session.{Session}
use Rattle.mongo_session.specs.Sasl.{session_of_login, after_proof}

-- it is the client's last, with the proof that the login's server waits for, and the answer is the message that this server owes
pub record TakesLast (old : Session) (login : PendingLogin) (message : List ℕ) (new : Session) (answer : SaslReply) : Type 0 where
  pub valid : IsValidClientFinal login.core message
  pub answer_is : IsOwed login.core answer.payload
  pub authentic : (x : Authentication) → HasBegun login.core x → (message ≡ close_of x) × (answer.payload ≡ server_final_of x)
  pub done_is : answer.is_done ≡ login.skips_empty_exchange
  pub new_is : new ≡ after_proof old login

-- where the login's key isn't proved
abbrev pub AnswersLast : Session → PendingLogin → List ℕ → Session → Option SaslReply → Type 0
AnswersLast old login message new (Some answer) = TakesLast old login message new answer
AnswersLast old login message new None = (IsValidClientFinal login.core message → ⊥) × ((x : Authentication) → HasBegun login.core x → message ≡ close_of x → ⊥) × (new ≡ old)

-- where it is
abbrev pub AnswersEmpty : Session → PendingLogin → List ℕ → Session → Option SaslReply → Type 0
AnswersEmpty old login message new (Some answer) = (message ≡ []) × (answer ≡ record { is_done = true; payload = [] }) × (new ≡ session_of_login login)
AnswersEmpty old login message new None = (message ≡ [] → ⊥) × (new ≡ old)
