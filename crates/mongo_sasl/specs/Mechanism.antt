-- The login mechanisms of the authentication specification: their names, and the database that each logs in on.
use Rattle.std.specs.Prelude.{◌≡◌, ◌≢◌, ℕ, Option, None, Some, Result, Ok, Err, List, codes, unwrap_or}
use Rattle.std.specs.List.{Contains}
use Rattle.mongo_wire.specs.declared.fault.ArgumentFault.{ArgumentFault}
use Rattle.mongo_wire.specs.declared.fault.ArgumentFault.TheVariants.{MechanismUnknown, MechanismGssapi}
use Rattle.mongo_command.specs.Command.{admin}
use Rattle.mongo_sasl.specs.declared.mechanism.AuthMechanism.{AuthMechanism}
use Rattle.mongo_sasl.specs.declared.mechanism.AuthMechanism.TheVariants.{MongoDbCr, ScramSha1, ScramSha256, MongoDbX509, Plain, MongoDbAws, MongoDbOidc}

abbrev pub name_of : AuthMechanism → List ℕ
name_of MongoDbCr = codes "MONGODB-CR"
name_of ScramSha1 = codes "SCRAM-SHA-1"
name_of ScramSha256 = codes "SCRAM-SHA-256"
name_of MongoDbX509 = codes "MONGODB-X509"
name_of Plain = codes "PLAIN"
name_of MongoDbAws = codes "MONGODB-AWS"
name_of MongoDbOidc = codes "MONGODB-OIDC"

-- no mechanism that is spoken here, and refused by its name
abbrev pub gssapi : List ℕ
gssapi = codes "GSSAPI"

-- what a text names: a mechanism, GSSAPI, which is none here, or nothing
abbrev pub Names : List ℕ → Result AuthMechanism ArgumentFault → Type 0
Names text (Ok mechanism) = text ≡ name_of mechanism
Names text (Err MechanismGssapi) = text ≡ gssapi
Names text (Err MechanismUnknown) = ((mechanism : AuthMechanism) → text ≢ name_of mechanism) × (text ≢ gssapi)
Names text (Err other) = ⊥

-- the database of users that are known elsewhere
abbrev pub external : List ℕ
external = codes "$external"

-- the database that a mechanism logs in on where the credential names none, by the one that the connection string names
abbrev pub source_of : AuthMechanism → Option (List ℕ) → List ℕ
source_of MongoDbCr database = unwrap_or database admin
source_of ScramSha1 database = unwrap_or database admin
source_of ScramSha256 database = unwrap_or database admin
source_of MongoDbX509 database = external
source_of Plain database = unwrap_or database external
source_of MongoDbAws database = external
source_of MongoDbOidc database = external

-- a server lists a mechanism for the user that its hello named
abbrev pub Lists : Option (List (List ℕ)) → AuthMechanism → Type 0
Lists None mechanism = ⊥
Lists (Some names) mechanism = Contains names (name_of mechanism)

-- the mechanism that a server and a client without one agree on: SCRAM-SHA-256 where it is listed, else SCRAM-SHA-1
abbrev pub IsNegotiated : Option (List (List ℕ)) → AuthMechanism → Type 0
IsNegotiated names ScramSha256 = Lists names ScramSha256
IsNegotiated names ScramSha1 = Lists names ScramSha256 → ⊥
IsNegotiated names other = ⊥
