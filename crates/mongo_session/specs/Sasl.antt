-- What the commands of a login come to (RFC 5802, section 3, as the server sees it): which are answered, by which message, and which are
-- refused.
use Rattle.std.specs.Prelude.{◌≡◌, ℕ, ◌⊎◌, Bool, true, false, Option, None, Some, List, [], if◌then◌else◌, IsSomeAnd, option_copied}
use Rattle.mongo_server.specs.Authentication.{Authentication, open_of, first_of, close_of, server_final_of}
use Rattle.mongo_server.specs.Server.{HasBegun, IsOwed, IsValidClientFinal}
use Rattle.mongo_session.specs.declared.reply.SaslReply.{SaslReply}
use Rattle.mongo_session.specs.declared.request.ContinueRequest.{ContinueRequest}
use Rattle.mongo_session.specs.declared.request.StartRequest.{StartRequest}
use Rattle.mongo_session.specs.declared.session.PendingLogin.{PendingLogin}
use Rattle.mongo_session.specs.declared.session.Session.{Session}
use Rattle.mongo_session.specs.declared.serve_settings.ServeSettings.{ServeSettings}
use Rattle.mongo_session.specs.Login.{IsAuthentication}

-- ---- a login begins

-- A `saslStart` asks for an authentication of the settings: by its mechanism, and by the client's first message.
pub record AsksFor (settings : ServeSettings) (start : StartRequest) (x : Authentication) : Type 0 where
  pub of_settings : IsAuthentication settings x
  pub version_is : start.version ≡ Some x.version
  pub said : option_copied start.payload ≡ Some (open_of x)

-- a login of the authentication has begun, and its key isn't proved yet
pub record IsBegun (x : Authentication) (skips : Bool) (login : PendingLogin) : Type 0 where
  pub begun : HasBegun login.core x
  pub name_is : login.name ≡ x.username
  pub skips_is : login.skips_empty_exchange ≡ skips
  pub unproved : login.is_proved ≡ false

-- The login that was asked for has begun, and the message is the server's first.
pub record BeginsLogin (settings : ServeSettings) (start : StartRequest) (new : Session) (message : SaslReply) : Type 0 where
  pub x : Authentication
  pub asked : AsksFor settings start x
  pub begun : IsSomeAnd new.login (IsBegun x start.skips_empty_exchange)
  pub message_is : message ≡ record { is_done = false; payload = first_of x }

-- What a `saslStart` comes to. It is refused exactly where it asks for no authentication of the settings; then no login goes on.
abbrev pub AnswersStart : ServeSettings → StartRequest → Session → Option SaslReply → Type 0
AnswersStart settings start new (Some message) = BeginsLogin settings start new message
AnswersStart settings start new None = ((x : Authentication) → AsksFor settings start x → ⊥) × (new.login ≡ None)

-- ---- a login goes on

-- a `saslContinue` with this message, of the conversation that the session's login is
pub record GoesOn (old : Session) (next : ContinueRequest) (login : PendingLogin) (message : List ℕ) : Type 0 where
  pub of_conversation : next.is_of_conversation ≡ true
  pub held : old.login ≡ Some login
  pub said : option_copied next.payload ≡ Some message

-- the message is a client's last one, with the proof that the login's server waits for
pub record Closes (old : Session) (next : ContinueRequest) (login : PendingLogin) (message : List ℕ) : Type 0 where
  pub goes_on : GoesOn old next login message
  pub unproved : login.is_proved ≡ false
  pub valid : IsValidClientFinal login.core message

-- the message is the client's last of the authentication, which the login has begun
pub record ClosesAuthentication (old : Session) (next : ContinueRequest) (x : Authentication) (login : PendingLogin) : Type 0 where
  pub goes_on : GoesOn old next login (close_of x)
  pub begun : HasBegun login.core x
  pub unproved : login.is_proved ≡ false

-- the message is empty, and the login's key is proved
pub record EndsEmpty (old : Session) (next : ContinueRequest) (login : PendingLogin) : Type 0 where
  pub goes_on : GoesOn old next login []
  pub proved : login.is_proved ≡ true

-- the login's user is logged in, and no login goes on
abbrev pub session_of_login : PendingLogin → Session
session_of_login login = record { user = Some login.name; login = None }

-- the session once the key is proved
abbrev pub after_proof : Session → PendingLogin → Session
after_proof old login = if login.skips_empty_exchange then session_of_login login else record old { login = Some (record login { is_proved = true }) }

-- The key is proved, and the answer is the message that the login's server owes. Of every authentication that the login has begun they are
-- the client's last message and the server's.
pub record ProvesKey (old : Session) (next : ContinueRequest) (new : Session) (answer : SaslReply) : Type 0 where
  pub login : PendingLogin
  pub message : List ℕ
  pub closes : Closes old next login message
  pub answer_is : IsOwed login.core answer.payload
  pub authentic : (x : Authentication) → HasBegun login.core x → (message ≡ close_of x) × (answer.payload ≡ server_final_of x)
  pub done_is : answer.is_done ≡ login.skips_empty_exchange
  pub new_is : new ≡ after_proof old login

-- the login has ended, which an empty message answers
pub record CompletesLogin (old : Session) (next : ContinueRequest) (new : Session) (answer : SaslReply) : Type 0 where
  pub login : PendingLogin
  pub ends : EndsEmpty old next login
  pub answer_is : answer ≡ record { is_done = true; payload = [] }
  pub new_is : new ≡ session_of_login login

-- What a `saslContinue` comes to. It is refused exactly where it neither closes nor ends a login; then no login goes on.
abbrev pub AnswersContinue : Session → ContinueRequest → Session → Option SaslReply → Type 0
AnswersContinue old next new (Some answer) = ProvesKey old next new answer ⊎ CompletesLogin old next new answer
AnswersContinue old next new None =
    ((login : PendingLogin) (message : List ℕ) → Closes old next login message → ⊥)
    × ((x : Authentication) (login : PendingLogin) → ClosesAuthentication old next x login → ⊥)
    × ((login : PendingLogin) → EndsEmpty old next login → ⊥)
    × (new ≡ record old { login = None })
