-- MONGODB-X509, as the driver speaks it: the certificate of the link is the credential, and one command asks the server to take
-- it. Against the authentication specification the user's name goes as `username` and not as `user`, and any answer to the same
-- command in a hello ends the login.
use Rattle.std.specs.Prelude.{◌≡◌, ℕ, ℤ, pos, Bool, true, false, Result, Option, List, [], ◌∷◌}
use Rattle.mongo_bson.specs.Document.{Element, IsWellFormed}
use Rattle.mongo_wire.specs.declared.error.Error.{Error}
use Rattle.mongo_wire.specs.declared.error.ErrorKind.{ErrorKind}
use Rattle.mongo_wire.specs.declared.error.ErrorKind.TheVariants.{Authentication}
use Rattle.mongo_wire.specs.declared.auth_fault.AuthFault.TheVariants.{Malformed, X509Failed}
use Rattle.mongo_wire.specs.Outside.{State}
use Rattle.mongo_command.specs.declared.command.Command.{Command}
use Rattle.mongo_command.specs.declared.server_api.ServerApi.{ServerApi}
use Rattle.mongo_command.specs.Command.{present, command_of, command_document}
use Rattle.mongo_command.specs.Conversation.{Said, Plan, HasNone, or_else, row_for, row_of, ending, unless, reading, saying}
use Rattle.mongo_command.specs.Field.{field_of}
use Rattle.mongo_command.specs.Hello.{IsSuccess}
use Rattle.mongo_command.specs.Literal.{text_element, int32_element, document_of}
use Rattle.mongo_command.specs.Keys.{ok_key}
use Rattle.mongo_sasl.specs.declared.mechanism.AuthMechanism.TheVariants.{MongoDbX509}
use Rattle.mongo_sasl.specs.declared.credential.Credential.{Credential}
use Rattle.mongo_sasl.specs.EndsByScript.{Standing, EndsByScript}
use Rattle.mongo_sasl.specs.Login.{unasked}
use Rattle.mongo_sasl.specs.Keys.{authenticate_key, mechanism_key, username_key}
use Rattle.mongo_sasl.specs.Mechanism.{external, name_of}

-- ---- what is said

-- the body, with the user name where one is given; else the server takes it from the certificate
abbrev pub x509_body : Option (List ℕ) → List ℕ
x509_body username =
    document_of
    (int32_element authenticate_key (pos 1)
    ∷ text_element mechanism_key (name_of MongoDbX509)
    ∷ present (text_element username_key) username)

-- the `authenticate` of `$external`
abbrev pub x509_command : Credential → Option ServerApi → Command
x509_command credential api = command_of authenticate_key external (x509_body credential.username) api

-- ---- what the reply says

-- the reply's elements, by which the server took the certificate
pub record AcceptsCertificate (reply : List ℕ) (elements : List Element) : Type 0 where
  pub well_formed : IsWellFormed reply elements
  pub ok : IsSuccess (field_of ok_key elements)

-- by the reply it didn't
pub record IsFailed (reply : List ℕ) : Type 0 where
  pub elements : List Element
  pub well_formed : IsWellFormed reply elements
  pub failed : IsSuccess (field_of ok_key elements) → ⊥

-- the server took it by some elements
abbrev pub IsCertificateAccepted : List ℕ → Type 0
IsCertificateAccepted reply = (elements : List Element) × AcceptsCertificate reply elements

-- why a reply is refused
abbrev pub X509Row : List ℕ → ErrorKind → Type 0
X509Row reply =
    row_of Authentication
    (or_else (row_for Malformed (HasNone (IsWellFormed reply)))
    (row_for X509Failed (IsFailed reply)))

-- ---- the plan

-- what a login is handed: who logs in, the server API, whether the server answered the same body in its hello, and the
-- greatest frame
pub record X509Handed : Type 0 where
  pub credential : Credential
  pub server_api : Option ServerApi
  pub speculated : Bool
  pub maximum : ℤ

abbrev pub x509_said : X509Handed → Said
x509_said handed = record { maximum = handed.maximum; document = command_document (x509_command handed.credential handed.server_api) }

-- after the reply
abbrev pub x509_heard : List ℕ → Plan (Unit {0})
x509_heard reply = unless (X509Row reply) (reading (AcceptsCertificate reply) (λ elements. ending tt))

-- nothing follows an answer in the hello, which isn't read: the driver has it so
abbrev pub x509_plan_from : Bool → X509Handed → Plan (Unit {0})
x509_plan_from true handed = ending tt
x509_plan_from false handed = saying (x509_said handed) x509_heard

abbrev pub x509_plan : X509Handed → Plan (Unit {0})
x509_plan handed = x509_plan_from handed.speculated handed

-- ---- a login, as whole lists

-- one command, and one reply that takes it
pub record IsAnsweredX509 (handed : X509Handed) (commands replies : List (List ℕ)) : Type 0 where
  pub commands_are : commands ≡ (x509_said handed).document ∷ []
  pub reply : List ℕ
  pub replies_are : replies ≡ reply ∷ []
  pub taken : IsCertificateAccepted reply

abbrev pub IsX509LoginFrom : Bool → X509Handed → List (List ℕ) → List (List ℕ) → Type 0
IsX509LoginFrom true handed commands replies = (commands ≡ []) × (replies ≡ [])
IsX509LoginFrom false handed commands replies = IsAnsweredX509 handed commands replies

abbrev pub IsX509Login : X509Handed → List (List ℕ) → List (List ℕ) → Type 0
IsX509Login handed commands replies = IsX509LoginFrom handed.speculated handed commands replies

-- ---- what the code is handed

abbrev pub x509_handed : Credential → Option ServerApi → Bool → ℤ → X509Handed
x509_handed credential api speculated maximum = record { credential = credential; server_api = api; speculated = speculated; maximum = maximum }

-- a login ends by the script of X.509
abbrev pub EndsByX509 : {L : Type 0} → (L → State) → X509Handed → Result (Unit {0}) Error → Standing L → Standing L → Type 0
EndsByX509 state handed result old new = EndsByScript [] state (x509_plan handed) (unasked (IsX509Login handed)) handed.maximum result old new
