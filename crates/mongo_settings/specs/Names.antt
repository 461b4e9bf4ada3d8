-- The words of the report for each cause of a refusal: its name, the name of the fault inside, the server's number and
-- the text that it carries.
use Rattle.mongo_command.specs.declared.server_type.ServerType.{ServerType}
use Rattle.mongo_command.specs.declared.server_type.ServerType.TheVariants.{Standalone, Mongos, RsPrimary, RsSecondary, RsArbiter, RsOther, RsGhost, LoadBalancer, Unknown}
use Rattle.std.specs.Prelude.{ℕ, ℤ, Option, None, Some, List, codes}
use Rattle.mongo_wire.specs.declared.error.ErrorKind.{ErrorKind}
use Rattle.mongo_wire.specs.declared.error.ErrorKind.TheVariants as kind
use Rattle.mongo_wire.specs.declared.auth_fault.AuthFault.{AuthFault}
use Rattle.mongo_wire.specs.declared.auth_fault.AuthFault.TheVariants as auth
use Rattle.mongo_wire.specs.declared.fault.ArgumentFault.{ArgumentFault}
use Rattle.mongo_wire.specs.declared.fault.ArgumentFault.TheVariants as argument
use Rattle.mongo_wire.specs.declared.fault.ResponseFault.{ResponseFault}
use Rattle.mongo_wire.specs.declared.fault.ResponseFault.TheVariants as response

-- the name of a cause
abbrev pub kind_name : ErrorKind → List ℕ
kind_name (kind.InvalidArgument fault) = codes "InvalidArgument"
kind_name (kind.InvalidResponse fault) = codes "InvalidResponse"
kind_name (kind.Command error) = codes "Command"
kind_name (kind.Authentication fault) = codes "Authentication"
kind_name kind.IncompatibleServer = codes "IncompatibleServer"
kind_name (kind.Write failure) = codes "Write"
kind_name (kind.InsertMany error) = codes "InsertMany"
kind_name kind.ReadFault = codes "ReadFault"
kind_name kind.WriteFault = codes "WriteFault"
kind_name kind.EndOfInput = codes "EndOfInput"
kind_name (kind.Callback text) = codes "Callback"
kind_name kind.PasswordNotAscii = codes "PasswordNotAscii"
kind_name kind.OutOfMemory = codes "OutOfMemory"

-- the name of what is wrong with an argument
abbrev pub argument_name : ArgumentFault → List ℕ
argument_name argument.CheckedFailure = codes "CheckedFailure"
argument_name argument.MaximumNegative = codes "MaximumNegative"
argument_name argument.TooLong = codes "TooLong"
argument_name argument.SequenceTooLong = codes "SequenceTooLong"
argument_name argument.IdentifierHasZero = codes "IdentifierHasZero"
argument_name (argument.Bson fault) = codes "Bson"
argument_name argument.MechanismUnknown = codes "MechanismUnknown"
argument_name argument.MechanismGssapi = codes "MechanismGssapi"
argument_name argument.PropertiesMalformed = codes "PropertiesMalformed"
argument_name argument.ScramUsername = codes "ScramUsername"
argument_name argument.X509Password = codes "X509Password"
argument_name argument.X509Source = codes "X509Source"
argument_name argument.PlainUsername = codes "PlainUsername"
argument_name argument.PlainUsernameEmpty = codes "PlainUsernameEmpty"
argument_name argument.PlainPassword = codes "PlainPassword"
argument_name argument.AwsUriCredentials = codes "AwsUriCredentials"
argument_name argument.OidcProperty = codes "OidcProperty"
argument_name argument.OidcCallbackWithEnvironment = codes "OidcCallbackWithEnvironment"
argument_name argument.OidcResourceMissing = codes "OidcResourceMissing"
argument_name argument.OidcResourceGiven = codes "OidcResourceGiven"
argument_name argument.OidcSource = codes "OidcSource"
argument_name argument.OidcPassword = codes "OidcPassword"
argument_name argument.OidcEnvironment = codes "OidcEnvironment"
argument_name argument.OidcHostsNotArray = codes "OidcHostsNotArray"

-- the name of what is wrong with a reply
abbrev pub response_name : ResponseFault → List ℕ
response_name (response.OpCode code) = codes "OpCode"
response_name response.OverMaximum = codes "OverMaximum"
response_name response.Compressed = codes "Compressed"
response_name response.NotMessage = codes "NotMessage"
response_name response.Sections = codes "Sections"
response_name response.Body = codes "Body"
response_name response.Hello = codes "Hello"
response_name response.SessionTimeout = codes "SessionTimeout"
response_name response.NoN = codes "NoN"
response_name response.NNotNumber = codes "NNotNumber"

-- the name of why a login was refused
abbrev pub auth_name : AuthFault → List ℕ
auth_name auth.NoUsername = codes "NoUsername"
auth_name auth.NoPassword = codes "NoPassword"
auth_name auth.PropertiesGiven = codes "PropertiesGiven"
auth_name auth.MongoDbCr = codes "MongoDbCr"
auth_name (auth.Refused text) = codes "Refused"
auth_name auth.Malformed = codes "Malformed"
auth_name auth.EndedEarly = codes "EndedEarly"
auth_name auth.Nonce = codes "Nonce"
auth_name auth.CountUnreadable = codes "CountUnreadable"
auth_name auth.CountLow = codes "CountLow"
auth_name auth.CountHigh = codes "CountHigh"
auth_name auth.Conversation = codes "Conversation"
auth_name (auth.ServerError text) = codes "ServerError"
auth_name auth.Verifier = codes "Verifier"
auth_name auth.NotCompleted = codes "NotCompleted"
auth_name auth.PasswordControl = codes "PasswordControl"
auth_name auth.X509Failed = codes "X509Failed"
auth_name auth.AwsSource = codes "AwsSource"
auth_name auth.AwsNonceLength = codes "AwsNonceLength"
auth_name auth.AwsHostEmpty = codes "AwsHostEmpty"
auth_name auth.AwsHostLong = codes "AwsHostLong"
auth_name auth.AwsHostLabel = codes "AwsHostLabel"
auth_name auth.AwsHostCharacter = codes "AwsHostCharacter"
auth_name auth.AwsCredentialCharacter = codes "AwsCredentialCharacter"
auth_name auth.AwsNoProvider = codes "AwsNoProvider"
auth_name auth.AddressNotTcp = codes "AddressNotTcp"
auth_name auth.AllowedHostsNotTexts = codes "AllowedHostsNotTexts"
auth_name auth.HostNotAllowed = codes "HostNotAllowed"
auth_name auth.NoCallback = codes "NoCallback"
auth_name auth.EnvironmentUnsupported = codes "EnvironmentUnsupported"
auth_name auth.ReauthenticationUnsupported = codes "ReauthenticationUnsupported"

-- the name of the fault inside a cause
abbrev pub reason_name : ErrorKind → Option (List ℕ)
reason_name (kind.InvalidArgument fault) = Some (argument_name fault)
reason_name (kind.InvalidResponse fault) = Some (response_name fault)
reason_name (kind.Authentication fault) = Some (auth_name fault)
reason_name _ = None

-- the server's number for its error
abbrev pub error_code : ErrorKind → Option ℤ
error_code (kind.Command error) = Some error.code
error_code _ = None

-- the text that a cause carries
abbrev pub auth_text : AuthFault → Option (List ℕ)
auth_text (auth.Refused text) = Some text
auth_text (auth.ServerError text) = Some text
auth_text _ = None

abbrev pub error_text : ErrorKind → Option (List ℕ)
error_text (kind.Command error) = Some error.message
error_text (kind.Authentication fault) = auth_text fault
error_text (kind.Callback text) = Some text
error_text _ = None

abbrev pub type_name : ServerType → List ℕ
type_name Standalone = codes "Standalone"
type_name Mongos = codes "Mongos"
type_name RsPrimary = codes "RsPrimary"
type_name RsSecondary = codes "RsSecondary"
type_name RsArbiter = codes "RsArbiter"
type_name RsOther = codes "RsOther"
type_name RsGhost = codes "RsGhost"
type_name LoadBalancer = codes "LoadBalancer"
type_name Unknown = codes "Unknown"
