-- PLAIN, RFC 4616: one command carries the user name and the password as they are, and its reply ends the login. As in the
-- driver, a zero byte in either and an empty password are sent, which section 2 excludes.
use Rattle.std.specs.Prelude.{◌≡◌, ℕ, ℤ, ◌⊎◌, true, false, Result, Option, Some, unwrap_or, List, [], ◌∷◌, ◌++◌}
use Rattle.mongo_wire.specs.declared.error.Error.{Error}
use Rattle.mongo_wire.specs.declared.error.ErrorKind.{ErrorKind}
use Rattle.mongo_wire.specs.declared.error.ErrorKind.TheVariants.{Authentication}
use Rattle.mongo_wire.specs.declared.auth_fault.AuthFault.TheVariants.{Malformed}
use Rattle.mongo_wire.specs.Outside.{State}
use Rattle.mongo_command.specs.declared.command.Command.{Command}
use Rattle.mongo_command.specs.declared.server_api.ServerApi.{ServerApi}
use Rattle.mongo_command.specs.Command.{command_of, command_document}
use Rattle.mongo_command.specs.Conversation.{Said, Plan, ending, unless, reading, saying}
use Rattle.mongo_sasl.specs.declared.credential.Credential.{Credential}
use Rattle.mongo_sasl.specs.declared.mechanism.AuthMechanism.TheVariants.{Plain}
use Rattle.mongo_sasl.specs.declared.plain.PlainLogin.{PlainLogin}
use Rattle.mongo_sasl.specs.declared.sasl_response.SaslResponse.{SaslResponse}
use Rattle.mongo_sasl.specs.Commands.{start_body}
use Rattle.mongo_sasl.specs.Credential.{NoUserRow}
use Rattle.mongo_sasl.specs.EndsByScript.{Standing, EndsByScript}
use Rattle.mongo_sasl.specs.Login.{unasked}
use Rattle.mongo_sasl.specs.Reply.{IsSaslReply, SaslRow}
use Rattle.mongo_sasl.specs.Keys.{sasl_start_key}
use Rattle.mongo_sasl.specs.Mechanism.{external}

-- ---- what is said

-- the message (RFC 4616, section 2): an authorization identity, which is empty here, the user name and the password, each
-- after a NUL but the first
abbrev pub plain_payload : List ℕ → List ℕ → List ℕ
plain_payload username password = 0 ∷ (username ++ 0 ∷ password)

-- who logs in, and the database that the user belongs to
pub record PlainUser : Type 0 where
  pub username : List ℕ
  pub password : List ℕ
  pub source : List ℕ

-- the user of a credential; one that names no database belongs to `$external`
pub record IsPlainUser (credential : Credential) (user : PlainUser) : Type 0 where
  pub username : credential.username ≡ Some user.username
  pub password : credential.password ≡ Some user.password
  pub source : user.source ≡ unwrap_or credential.source external

-- why a credential has no login by PLAIN
abbrev pub PlainRow : Credential → ErrorKind → Type 0
PlainRow credential = NoUserRow credential

abbrev pub plain_body : PlainUser → List ℕ
plain_body user = start_body Plain (plain_payload user.username user.password)

-- the `saslStart` that carries the message
abbrev pub plain_command : PlainUser → Option ServerApi → Command
plain_command user api = command_of sasl_start_key user.source (plain_body user) api

-- ---- the plan

-- what a login is handed: who logs in, the server API, and the greatest frame
pub record PlainHanded : Type 0 where
  pub credential : Credential
  pub server_api : Option ServerApi
  pub maximum : ℤ

abbrev pub plain_said : PlainHanded → PlainUser → Said
plain_said handed user = record { maximum = handed.maximum; document = command_document (plain_command user handed.server_api) }

-- the one reply has to end the conversation
abbrev pub UnfinishedRow : SaslResponse → ErrorKind → Type 0
UnfinishedRow sasl kind = (kind ≡ Authentication Malformed) × (sasl.done ≡ false)

-- why a reply doesn't end it: its row, or that
abbrev pub FinishedRow : List ℕ → ErrorKind → Type 0
FinishedRow reply kind = SaslRow reply kind ⊎ ((sasl : SaslResponse) × IsSaslReply reply sasl × UnfinishedRow sasl kind)

-- after the reply
abbrev pub plain_heard : List ℕ → Plan (Unit {0})
plain_heard reply = unless (SaslRow reply) (reading (IsSaslReply reply) (λ sasl. unless (UnfinishedRow sasl) (ending tt)))

abbrev pub plain_plan : PlainHanded → Plan (Unit {0})
plain_plan handed = unless (PlainRow handed.credential) (reading (IsPlainUser handed.credential) (λ user. saying (plain_said handed user) plain_heard))

-- ---- a login, as whole lists

-- the reply succeeded, and the conversation is done
pub record IsFinished (reply : List ℕ) : Type 0 where
  pub sasl : SaslResponse
  pub is_reply : IsSaslReply reply sasl
  pub done : sasl.done ≡ true

-- one command with the user's message, and one reply that ends it
pub record IsPlainLogin (handed : PlainHanded) (commands replies : List (List ℕ)) : Type 0 where
  pub user : PlainUser
  pub is_user : IsPlainUser handed.credential user
  pub commands_are : commands ≡ (plain_said handed user).document ∷ []
  pub reply : List ℕ
  pub replies_are : replies ≡ reply ∷ []
  pub finished : IsFinished reply

-- ---- what the code holds

abbrev pub plain_user_of : PlainLogin → PlainUser
plain_user_of login = record { username = login.username.now; password = login.password.now; source = login.source.now }

abbrev pub plain_handed : Credential → Option ServerApi → ℤ → PlainHanded
plain_handed credential api maximum = record { credential = credential; server_api = api; maximum = maximum }

-- a login ends by the script of PLAIN
abbrev pub EndsByPlain : {L : Type 0} → (L → State) → PlainHanded → Result (Unit {0}) Error → Standing L → Standing L → Type 0
EndsByPlain state handed result old new = EndsByScript [] state (plain_plan handed) (unasked (IsPlainLogin handed)) handed.maximum result old new
