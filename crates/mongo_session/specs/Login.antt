-- When a user has logged in: which requests the client has sent, in their order.
use Rattle.std.specs.Prelude.{◌≡◌, ℕ, true, None, List, ◌∷◌, ◌++◌, IfSome}
use Rattle.mongo_scram.specs.Key.{PasswordRow}
use Rattle.mongo_server.specs.ClientMessages.{IsNonce}
use Rattle.mongo_server.specs.Authentication.{Authentication, open_of, close_of}
use Rattle.mongo_server.specs.Server.{HasBegun}
use Rattle.mongo_wire.specs.declared.error.ErrorKind.{ErrorKind}
use Rattle.mongo_session.specs.Accounts.{IsFirstAccount}
use Rattle.mongo_session.specs.declared.session.PendingLogin.{PendingLogin}
use Rattle.mongo_session.specs.declared.session.Session.{Session}
use Rattle.mongo_session.specs.declared.serve_settings.Account.{Account}
use Rattle.mongo_session.specs.declared.serve_settings.ServeSettings.{ServeSettings}
use Rattle.mongo_session.specs.Requests.{StartsLogin, SaysSaslContinue}

-- the authentication of an account (RFC 5802, section 3) with this suffix and the client's nonce
abbrev pub authentication_of : Account → List ℕ → List ℕ → Authentication
authentication_of account suffix nonce = record { version = account.version; username = account.name; password = account.password; salt = account.salt; count = account.count; nonce = nonce; suffix = suffix }

-- An authentication of the settings: of an account that counts, whose password its mechanism takes.
pub record IsAuthentication (settings : ServeSettings) (x : Authentication) : Type 0 where
  pub account : Account
  pub counts : IsFirstAccount settings.accounts account
  pub usable : (kind : ErrorKind) → PasswordRow account.version account.password kind → ⊥
  pub printable : IsNonce x.nonce
  pub authentication_is : x ≡ authentication_of account settings.suffix x.nonce

-- ---- the requests, each a document

-- one of them begins the login of the authentication: it names the mechanism, and its message is the client's first
pub record HasStarted (x : Authentication) (requests : List (List ℕ)) : Type 0 where
  pub before : List (List ℕ)
  pub request : List ℕ
  pub after : List (List ℕ)
  pub split : requests ≡ before ++ (request ∷ after)
  pub opens : StartsLogin request x.version (open_of x)

-- and a later one proves the key: it goes on with the conversation, and its message is the client's last, byte for byte
pub record HasProved (x : Authentication) (requests : List (List ℕ)) : Type 0 where
  pub before : List (List ℕ)
  pub request : List ℕ
  pub after : List (List ℕ)
  pub split : requests ≡ before ++ (request ∷ after)
  pub opened : HasStarted x before
  pub closes : SaysSaslContinue request (close_of x)

-- the client's messages of an authentication of this user were sent
pub record HasLoggedIn (settings : ServeSettings) (name : List ℕ) (requests : List (List ℕ)) : Type 0 where
  pub x : Authentication
  pub of_settings : IsAuthentication settings x
  pub name_is : name ≡ x.username
  pub proved : HasProved x requests

-- ---- what a session holds after these requests

-- before the first: nobody is logged in, and no login goes on
abbrev pub fresh : Session
fresh = record { user = None; login = None }

-- a login that goes on
pub record IsPendingLogin (settings : ServeSettings) (requests : List (List ℕ)) (login : PendingLogin) : Type 0 where
  pub x : Authentication
  pub of_settings : IsAuthentication settings x
  pub name_is : login.name ≡ x.username
  pub begun : HasBegun login.core x
  pub opened : HasStarted x requests
  pub proved : login.is_proved ≡ true → HasProved x requests

pub record Remembers (settings : ServeSettings) (requests : List (List ℕ)) (session : Session) : Type 0 where
  pub user : IfSome session.user (λ name. HasLoggedIn settings name requests)
  pub login : IfSome session.login (IsPendingLogin settings requests)
