-- The rounds of Hi that logins derive which share one cache of salted passwords: each key once, from the first login that
-- asks for it until one with it was accepted.
use Rattle.std.specs.Prelude.{◌≡◌, ℕ, ◌⊎◌, Bool, true, false, Option, None, Some, List, [], ◌∷◌, ◌++◌, Contains}
use Rattle.mongo_wire.specs.declared.error.ErrorKind.{ErrorKind}
use Rattle.mongo_wire.specs.declared.error.ErrorKind.TheVariants.{IncompatibleServer}
use Rattle.mongo_scram.specs.declared.cache.SaltedKey.{SaltedKey}
use Rattle.mongo_establish.specs.Derivation.{LeadsToKey}
use Rattle.mongo_settings.specs.declared.settings.Settings.{Settings}
use Rattle.mongo_settings.specs.Outcome.{setup_of, Outcome, accepted, refused}

-- the key that the reply bytes lead the login to derive from, or that it comes to none
abbrev pub DerivesFrom : Settings → Option SaltedKey → Type 0
DerivesFrom settings key = LeadsToKey (setup_of settings) settings.replies key

-- the rounds that a login with this key derives, where these keys were accepted before
abbrev pub DerivedKey : List SaltedKey → Option SaltedKey → ℕ → Type 0
DerivedKey keys None rounds = rounds ≡ 0
DerivedKey keys (Some key) rounds = (Contains keys key × (rounds ≡ 0)) ⊎ ((Contains keys key → ⊥) × (rounds ≡ key.count))

-- the rounds that it derives where none was accepted before
abbrev pub rounds_alone : Option SaltedKey → ℕ
rounds_alone None = 0
rounds_alone (Some key) = key.count

-- the login was accepted: the one refusal that follows it is that of a server without a service
abbrev pub is_after_login : ErrorKind → Bool
is_after_login IncompatibleServer = true
is_after_login kind = false

abbrev pub logs_in : Outcome → Bool
logs_in (accepted acceptance) = true
logs_in (refused refusal) = is_after_login refusal.kind

-- the accepted keys after a login with this key
abbrev pub keys_after : Bool → Option SaltedKey → List SaltedKey → List SaltedKey
keys_after true (Some key) keys = keys ++ key ∷ []
keys_after logged_in key keys = keys
