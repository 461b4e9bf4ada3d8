-- A user that a server knows.
use Rattle.std.specs.Prelude.{◌≡◌, ℕ, ◌^◌, ◌<◌, List}
use Rattle.std.specs.Str.{IsUtf8}
use Rattle.mongo_scram.specs.declared.scram_version.ScramVersion.{ScramVersion}
use Rattle.mongo_scram.specs.Key.{salted}
use Rattle.mongo_scram.specs.Keys.{AreKeysOf}
use Rattle.mongo_server.specs.declared.user.ServerUser.{ServerUser}

-- the user of this name, by this salted password, salt and iteration count
pub record IsUserWith (version : ScramVersion) (username key salt : List ℕ) (count : ℕ) (user : ServerUser) : Type 0 where
  pub version_is : user.keys.version ≡ version
  pub username_is : user.username ≡ username
  pub text : IsUtf8 username
  pub salt_is : user.salt ≡ salt
  pub count_is : user.count ≡ count
  pub within : count < 2 ^ 32
  pub keys : AreKeysOf key user.keys

-- the user of this name and password, by this salt and iteration count
abbrev pub IsUserOf : ScramVersion → List ℕ → List ℕ → List ℕ → ℕ → ServerUser → Type 0
IsUserOf version username password salt count user = IsUserWith version username (salted version username password salt count) salt count user
