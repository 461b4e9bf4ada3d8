-- Who logs in.
use Rattle.std.specs.Prelude.{◌≡◌, ℕ, ◌+◌, ◌^◌, ◌≤◌, ◌⊎◌, None, Some, List, length}
use Rattle.mongo_wire.specs.declared.error.ErrorKind.{ErrorKind}
use Rattle.mongo_sasl.specs.declared.credential.Credential.{Credential}
use Rattle.mongo_scram.specs.declared.cache.SaltedKey.{SaltedKey}
use Rattle.mongo_scram.specs.declared.scram_version.ScramVersion.{ScramVersion}
use Rattle.mongo_scram.specs.Base64.{base64_of}
use Rattle.mongo_scram.specs.Cache.{entries_of, Adds}
use Rattle.mongo_scram.specs.Commands.{mechanism_of}
use Rattle.mongo_scram.specs.Costs.{Ledgers, Counts, SameEntries}
use Rattle.mongo_scram.specs.Entry.{salted_of}
use Rattle.mongo_scram.specs.Key.{PasswordRow}
use Rattle.mongo_scram.specs.Messages.{open_message}
use Rattle.mongo_scram.specs.Validity.{least_count}
use Rattle.mongo_establish.specs.declared.login_state.Nonces.{Nonces}
use Rattle.mongo_establish.specs.Options.{default_max_iterations}
use Rattle.mongo_server.specs.ClientMessages.{IsNonce}
use Rattle.mongo_server.specs.Authentication.{Authentication, open_of}
use Rattle.mongo_generate.specs.declared.user_login.UserLogin.{UserLogin}

-- the credential of a user of the database `admin` whose mechanism is given
abbrev pub credential_by : ScramVersion → List ℕ → List ℕ → Credential
credential_by version username password = record { username = Some username; source = None; password = Some password; mechanism = Some (mechanism_of version); mechanism_properties = None }

-- the user logs in by these nonces
pub record IsUserLogin (version : ScramVersion) (username password : List ℕ) (nonces : Nonces) (login : UserLogin) : Type 0 where
  pub credential_is : login.credential ≡ credential_by version username password
  pub nonces_are : login.inputs.nonces ≡ nonces
  pub first_is : login.client_first ≡ open_message username (base64_of nonces.first)

-- an authentication that both sides go through with: a nonce that is printable, as many iterations as the client takes, a password
-- that a key is derived from, and texts of a mebibyte at most together
pub record IsPossible (x : Authentication) : Type 0 where
  pub printable : IsNonce x.nonce
  pub enough : least_count ≤ x.count
  pub within : x.count ≤ default_max_iterations
  pub usable : (kind : ErrorKind) → PasswordRow x.version x.password kind → ⊥
  pub short : length x.username + length x.salt + length x.nonce + length x.suffix ≤ 2 ^ 20

-- the login is the client's side of a possible authentication
pub record IsAuthenticationClient (x : Authentication) (login : UserLogin) : Type 0 where
  pub possible : IsPossible x
  pub credential_is : login.credential ≡ credential_by x.version x.username x.password
  pub nonce_is : base64_of login.inputs.nonces.first ≡ x.nonce
  pub first_is : login.client_first ≡ open_of x

-- the key that it derives from
abbrev pub key_of : Authentication → SaltedKey
key_of x = record { version = x.version; username = x.username; password = x.password; salt = x.salt; count = x.count }

-- ---- what a login takes, however it ends

-- The rounds that it derived are counted by the counter and by the cache. The entries are those that were there, or these and
-- one key's.
pub record KeepsEntries (old new : Ledgers) : Type 0 where
  pub rounds : ℕ
  pub counts : Counts rounds old new
  pub entries : SameEntries old new ⊎ ((key : SaltedKey) × Adds (entries_of old.cache) (entries_of new.cache) (key, salted_of key))
