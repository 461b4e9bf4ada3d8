-- An entry of the cache: a whole key, and its salted password.
use Rattle.std.specs.Prelude.{◌≡◌, ℕ, ◌≤◌, List}
use Rattle.mongo_wire.specs.declared.error.ErrorKind.{ErrorKind}
use Rattle.mongo_scram.specs.declared.cache.SaltedKey.{SaltedKey}
use Rattle.mongo_scram.specs.Key.{salted, PasswordRow}

-- the salted password of a key
abbrev pub salted_of : SaltedKey → List ℕ
salted_of key = salted key.version key.username key.password key.salt key.count

-- a key that was derived from: its password is usable, and there was a round at least
pub record IsUsable (key : SaltedKey) : Type 0 where
  pub password : (kind : ErrorKind) → PasswordRow key.version key.password kind → ⊥
  pub counted : 1 ≤ key.count

pub record IsSaltedEntry (entry : SaltedKey × List ℕ) : Type 0 where
  pub usable : IsUsable entry.0
  pub salted_is : entry.1 ≡ salted_of entry.0
