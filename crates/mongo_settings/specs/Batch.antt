-- A batch: logins one after another that share one cache of salted passwords and nothing else, and its report.
use Rattle.std.specs.Prelude.{◌≡◌, ℕ, ◌-◌, ◌^◌, Option, Bool, List, [], ◌∷◌, ◌++◌, map, flat_map, sum_by, min, codes, decimal, ⊤}
use Rattle.mongo_scram.specs.declared.cache.SaltedKey.{SaltedKey}
use Rattle.mongo_establish.specs.Speculation.{SpeaksFor}
use Rattle.mongo_settings.specs.declared.settings.Settings.{Settings}
use Rattle.mongo_settings.specs.declared.rehearsal.RehearsalStatus.{RehearsalStatus}
use Rattle.mongo_settings.specs.declared.rehearsal.RehearsalStatus.TheVariants.{Accepted, Refused}
use Rattle.mongo_settings.specs.Line.{line}
use Rattle.mongo_settings.specs.Outcome.{status_of}
use Rattle.mongo_settings.specs.Rehearsal.{IsReport}
use Rattle.mongo_settings.specs.Rounds.{DerivesFrom, DerivedKey, logs_in, keys_after}

-- the login is by a mechanism that is spoken
abbrev pub IsLoginSpoken : Settings → Type 0
IsLoginSpoken settings = SpeaksFor settings.credential

-- one login: its settings, its report alone, how it came out, the key that it derives from, whether that was accepted, and
-- the rounds that it derived
pub record BatchLogin : Type 0 where
  pub settings : Settings
  pub text : List ℕ
  pub status : RehearsalStatus
  pub key : Option SaltedKey
  pub logged_in : Bool
  pub rounds : ℕ

-- after logins with these accepted keys; the report knows nothing of them
pub record IsBatchLogin (keys : List SaltedKey) (login : BatchLogin) : Type 0 where
  pub report : IsReport login.settings login.text
  pub status_is : login.status ≡ status_of report.outcome
  pub logged_in_is : login.logged_in ≡ logs_in report.outcome
  pub key_is : DerivesFrom login.settings login.key
  pub derived : DerivedKey keys login.key login.rounds

abbrev pub keys_with : List SaltedKey → BatchLogin → List SaltedKey
keys_with keys login = keys_after login.logged_in login.key keys

unfoldable pub AreLogins : List SaltedKey → List BatchLogin → Type 0
AreLogins keys [] = ⊤
AreLogins keys (login ∷ others) = IsBatchLogin keys login × AreLogins (keys_with keys login) others

-- a batch is accepted where each of its logins is
abbrev pub both : RehearsalStatus → RehearsalStatus → RehearsalStatus
both Accepted status = status
both Refused status = Refused

abbrev pub status_of_all : List BatchLogin → RehearsalStatus
status_of_all [] = Accepted
status_of_all (login ∷ others) = both login.status (status_of_all others)

abbrev pub rounds_of_all : List BatchLogin → ℕ
rounds_of_all logins = sum_by (λ login. login.rounds) logins

-- what a cache counts of so many rounds: it stays at its last value
abbrev pub capped_rounds : ℕ → ℕ
capped_rounds rounds = min rounds (2 ^ 64 - 1)

unfoldable pub rounds_line : ℕ → List ℕ
rounds_line rounds = line (codes "rounds") (decimal rounds ∷ [])

-- the reports of the logins alone, joined, and the rounds of them all
abbrev pub batch_text : List BatchLogin → List ℕ
batch_text logins = flat_map (λ login. login.text) logins ++ rounds_line (capped_rounds (rounds_of_all logins))

pub record IsBatch (settings : List Settings) (text : List ℕ) : Type 0 where
  pub logins : List BatchLogin
  pub settings_are : map (λ login. login.settings) logins ≡ settings
  pub are_logins : AreLogins [] logins
  pub text_is : text ≡ batch_text logins
