-- Who logs in by SCRAM, as a credential says it (RFC 5802, section 5, and MongoDB's authentication specification).
use Rattle.std.specs.Prelude.{◌≡◌, ℕ, None, Some, unwrap_or, List}
use Rattle.mongo_wire.specs.declared.error.ErrorKind.{ErrorKind}
use Rattle.mongo_wire.specs.declared.error.ErrorKind.TheVariants.{Authentication}
use Rattle.mongo_wire.specs.declared.auth_fault.AuthFault.{AuthFault}
use Rattle.mongo_wire.specs.declared.auth_fault.AuthFault.TheVariants.{PropertiesGiven}
use Rattle.mongo_command.specs.Command.{admin}
use Rattle.mongo_command.specs.Conversation.{Demands, no_demand, demand, UnmetRow, row_of}
use Rattle.mongo_sasl.specs.declared.credential.Credential.{Credential}
use Rattle.mongo_sasl.specs.Credential.{user_demands}

-- a user, by name and password, and the database that the user belongs to
pub record User : Type 0 where
  pub username : List ℕ
  pub password : List ℕ
  pub source : List ℕ

-- the user of a credential; one that names no database belongs to `admin`
pub record IsUser (credential : Credential) (user : User) : Type 0 where
  pub username : credential.username ≡ Some user.username
  pub password : credential.password ≡ Some user.password
  pub properties : credential.mechanism_properties ≡ None
  pub source : user.source ≡ unwrap_or credential.source admin

-- what is demanded of a credential that logs in by SCRAM
abbrev pub credential_demands : Credential → Demands AuthFault
credential_demands credential =
    user_demands credential
    (demand PropertiesGiven (credential.mechanism_properties ≡ None)
    no_demand)

-- why one has no such login: the row of the first demand that it doesn't meet
abbrev pub CredentialRow : Credential → ErrorKind → Type 0
CredentialRow credential = row_of Authentication (UnmetRow (credential_demands credential))
