-- Credentials, and what they ask of a hello.
use Rattle.std.specs.Prelude.{ℕ, ◌+◌, ◌<◌, Option, None, Some, IsSome, List, ◌++◌, codes, length, ⊤}
use Rattle.mongo_bson.specs.Document.{Element, spell}
use Rattle.mongo_bson.specs.Framed.{element_bytes, enclosed, maximum_length}
use Rattle.mongo_bson.specs.declared.fault.BsonFault.TheVariants.{TooLong}
use Rattle.mongo_wire.specs.declared.error.ErrorKind.{ErrorKind}
use Rattle.mongo_wire.specs.declared.error.ErrorKind.TheVariants.{InvalidArgument, Authentication, OutOfMemory}
use Rattle.mongo_wire.specs.declared.auth_fault.AuthFault.{AuthFault}
use Rattle.mongo_wire.specs.declared.auth_fault.AuthFault.TheVariants.{NoUsername, NoPassword}
use Rattle.mongo_wire.specs.declared.fault.ArgumentFault.TheVariants.{Bson}
use Rattle.mongo_command.specs.Command.{admin}
use Rattle.mongo_command.specs.Conversation.{Demands, no_demand, demand, UnmetRow, row_of}
use Rattle.mongo_command.specs.Literal.{text_element}
use Rattle.mongo_command.specs.Keys.{sasl_supported_mechs_key}
use Rattle.mongo_sasl.specs.declared.mechanism.AuthMechanism.{AuthMechanism}
use Rattle.mongo_sasl.specs.declared.credential.Credential.{Credential}
use Rattle.mongo_sasl.specs.Mechanism.{source_of}

-- what is demanded of a credential that names a user with a password, and what is demanded after that
abbrev pub user_demands : Credential → Demands AuthFault → Demands AuthFault
user_demands credential more =
    demand NoUsername (IsSome credential.username)
    (demand NoPassword (IsSome credential.password)
    more)

-- why a credential names none: the row of the first demand that it doesn't meet
abbrev pub NoUserRow : Credential → ErrorKind → Type 0
NoUserRow credential = row_of Authentication (UnmetRow (user_demands credential no_demand))

-- the database of a credential's mechanism, whatever database the credential names
abbrev pub resolved_source : Option AuthMechanism → List ℕ
resolved_source None = admin
resolved_source (Some mechanism) = source_of mechanism None

-- the user of this name that belongs to `admin`, as a server writes users
abbrev pub user_of_admin : List ℕ → List ℕ
user_of_admin username = codes "admin." ++ username

-- what a hello is asked of a user's mechanisms: the user of `admin`
abbrev pub negotiation_element : List ℕ → Element
negotiation_element username = text_element sasl_supported_mechs_key (user_of_admin username)

-- a document and the question after it, which is asked where there are a user name and no mechanism
abbrev pub negotiated_by : Option (List ℕ) → Option AuthMechanism → List ℕ → List ℕ
negotiated_by None mechanism document = document
negotiated_by (Some username) None document = enclosed (element_bytes document ++ spell (negotiation_element username))
negotiated_by (Some username) (Some mechanism) document = document

abbrev pub negotiated : Credential → List ℕ → List ℕ
negotiated c document = negotiated_by c.username c.mechanism document

-- the question is asked, and the document would pass 2147483647 bytes with it
abbrev pub NegotiatesTooLong : Option (List ℕ) → Option AuthMechanism → List ℕ → Type 0
NegotiatesTooLong None mechanism document = ⊥
NegotiatesTooLong (Some username) None document = maximum_length < length document + length (spell (negotiation_element username))
NegotiatesTooLong (Some username) (Some mechanism) document = ⊥

-- why a question isn't put: the length, or want of memory
abbrev pub NegotiationRefused : ErrorKind → Credential → List ℕ → Type 0
NegotiationRefused (InvalidArgument (Bson TooLong)) c document = NegotiatesTooLong c.username c.mechanism document
NegotiationRefused OutOfMemory c document = ⊤
NegotiationRefused kind c document = ⊥
