-- How a login is opened: which account the client's first message is of, and what the message comes to there.
use Rattle.std.specs.Prelude.{◌≡◌, ℕ, Bool, Option, None, Some, List, ◌∷◌, ◌++◌}
use Rattle.std.specs.Borrow.{Bor}
use Rattle.std.specs.List.{AllByRecursion}
use Rattle.mongo_scram.specs.Key.{PasswordRow}
use Rattle.mongo_scram.specs.Messages.{open_message}
use Rattle.mongo_scram.specs.declared.scram_version.ScramVersion.{ScramVersion}
use Rattle.mongo_server.specs.ClientMessages.{IsNonce}
use Rattle.mongo_server.specs.Authentication.{Authentication, first_of}
use Rattle.mongo_wire.specs.declared.error.ErrorKind.{ErrorKind}
use Rattle.mongo_session.specs.declared.start.StartedLogin.{StartedLogin}
use Rattle.mongo_session.specs.declared.request.StartRequest.{StartRequest}
use Rattle.mongo_session.specs.declared.serve_settings.Account.{Account}
use Rattle.mongo_session.specs.declared.serve_settings.ServeSettings.{ServeSettings}
use Rattle.mongo_session.specs.Login.{authentication_of}
use Rattle.mongo_session.specs.Sasl.{AsksFor, IsBegun}

-- ---- the account

-- the message is a client's first of this user, whatever follows as its nonce
abbrev pub NamesUser : List ℕ → List ℕ → Type 0
NamesUser message user = (nonce : List ℕ) × (message ≡ open_message user nonce)

-- the account is of the mechanism, and of the user that the message names
abbrev pub Suits : ScramVersion → List ℕ → Account → Type 0
Suits version message account = (account.version ≡ version) × NamesUser message account.name

-- the first account that suits
pub record IsFound (accounts : List Account) (version : ScramVersion) (message : List ℕ) (account : Account) : Type 0 where
  pub before : List Account
  pub after : List Account
  pub split : accounts ≡ before ++ (account ∷ after)
  pub others : AllByRecursion (λ other. Suits version message other → ⊥) before
  pub suits : Suits version message account

abbrev pub FindsAccount : List Account → ScramVersion → List ℕ → Option (Bor Account) → Type 0
FindsAccount accounts version message None = AllByRecursion (λ other. Suits version message other → ⊥) accounts
FindsAccount accounts version message (Some account) = IsFound accounts version message account.now

-- ---- the login

-- the message is a client's first of the account's authentication of this nonce, and the mechanism takes the password
pub record IsStartFor (account : Account) (suffix message nonce : List ℕ) : Type 0 where
  pub usable : (kind : ErrorKind) → PasswordRow account.version account.password kind → ⊥
  pub printable : IsNonce nonce
  pub said : message ≡ open_message account.name nonce

-- a login of the authentication has begun, and the answer is the server's first message
pub record BeginsAuthentication (x : Authentication) (skips : Bool) (opened : StartedLogin) : Type 0 where
  pub begun : IsBegun x skips opened.login
  pub answer_is : opened.answer ≡ first_of x

-- what the message comes to at an account
abbrev pub StartsFor : Account → List ℕ → List ℕ → Bool → Option StartedLogin → Type 0
StartsFor account suffix message skips None = (nonce : List ℕ) → IsStartFor account suffix message nonce → ⊥
StartsFor account suffix message skips (Some opened) = (nonce : List ℕ) × IsStartFor account suffix message nonce × BeginsAuthentication (authentication_of account suffix nonce) skips opened

-- what a `saslStart` comes to: a login begins exactly where it asks for an authentication of the settings
abbrev pub StartsBy : ServeSettings → StartRequest → Option StartedLogin → Type 0
StartsBy settings start None = (x : Authentication) → AsksFor settings start x → ⊥
StartsBy settings start (Some opened) = (x : Authentication) × AsksFor settings start x × BeginsAuthentication x start.skips_empty_exchange opened
