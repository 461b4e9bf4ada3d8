-- Which first messages of the server a client goes on from.
use Rattle.std.specs.Prelude.{◌≡◌, ◌≢◌, ℕ, ◌≤◌, false, List, [], ◌++◌, length}
use Rattle.mongo_wire.specs.declared.error.ErrorKind.{ErrorKind}
use Rattle.mongo_wire.specs.declared.error.ErrorKind.TheVariants.{Authentication}
use Rattle.mongo_wire.specs.declared.auth_fault.AuthFault.{AuthFault}
use Rattle.mongo_wire.specs.declared.auth_fault.AuthFault.TheVariants.{EndedEarly, Nonce, AwsNonceLength, AwsHostEmpty, AwsHostLong, AwsHostLabel, AwsHostCharacter}
use Rattle.mongo_command.specs.Conversation.{Demands, no_demand, demand, AreMet, UnmetRow, row_of}
use Rattle.mongo_aws.specs.declared.server_first.ServerFirst.{ServerFirst}
use Rattle.mongo_aws.specs.Host.{longest_host, HasNoEmptyLabel, HasHostCharacters}

-- the nonce begins with this one
abbrev pub BeginsWith : List ℕ → List ℕ → Type 0
BeginsWith nonce ours = (suffix : List ℕ) × (nonce ≡ ours ++ suffix)

-- the length of the server's nonce: that of the client's, and as much behind it
abbrev pub server_nonce_length : ℕ
server_nonce_length = 64

-- what a client with this nonce demands of the server's first message
abbrev pub first_demands : ServerFirst → List ℕ → Demands AuthFault
first_demands first nonce =
    demand EndedEarly (first.done ≡ false)
    (demand Nonce (BeginsWith first.server_nonce nonce)
    (demand AwsNonceLength (length first.server_nonce ≡ server_nonce_length)
    (demand AwsHostEmpty (first.sts_host ≢ [])
    (demand AwsHostLong (length first.sts_host ≤ longest_host)
    (demand AwsHostLabel (HasNoEmptyLabel first.sts_host)
    (demand AwsHostCharacter (HasHostCharacters first.sts_host)
    no_demand))))))

-- it goes on
abbrev pub IsValidFirst : ServerFirst → List ℕ → Type 0
IsValidFirst first nonce = AreMet (first_demands first nonce)

-- why it doesn't: the row of the first demand that isn't met
abbrev pub ServerFirstRow : ServerFirst → List ℕ → ErrorKind → Type 0
ServerFirstRow first nonce = row_of Authentication (UnmetRow (first_demands first nonce))
