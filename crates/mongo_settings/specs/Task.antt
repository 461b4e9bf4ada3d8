-- What is rehearsed: the login of settings, or the logins of a batch.
use Rattle.std.specs.Prelude.{◌≡◌, ℕ, ◌+◌, Option, Result, Ok, List, [], ◌∷◌, All}
use Rattle.mongo_scram.specs.declared.cache.SaltedKey.{SaltedKey}
use Rattle.mongo_settings.specs.declared.settings.Settings.{Settings}
use Rattle.mongo_settings.specs.declared.settings.SettingsError.{SettingsError}
use Rattle.mongo_settings.specs.declared.task.Logins.{Logins}
use Rattle.mongo_settings.specs.declared.task.Logins.TheVariants.{One, Many}
use Rattle.mongo_settings.specs.declared.task.Task.{Task}
use Rattle.mongo_settings.specs.declared.task.Task.TheVariants.{Rehearse, Batch}
use Rattle.mongo_settings.specs.declared.rehearsal.RehearsalStatus.{RehearsalStatus}
use Rattle.mongo_settings.specs.declared.rehearsal.RehearsalStatus.TheVariants.{Accepted, Refused}
use Rattle.mongo_settings.specs.Settings.{unless_refused, judged}
use Rattle.mongo_settings.specs.Logins.{logins_judged}
use Rattle.mongo_settings.specs.Outcome.{status_of, LeadsToAcceptance, IsRefused}
use Rattle.mongo_settings.specs.Rehearsal.{IsReport}
use Rattle.mongo_settings.specs.Rounds.{DerivesFrom, rounds_alone}
use Rattle.mongo_settings.specs.Batch.{IsLoginSpoken, IsBatch, both, status_of_all, rounds_of_all}

-- what is asked for: one login, or many
pub data Asks : Type 0 where
  one : Settings → Asks
  many : List Settings → Asks

abbrev pub asks_of : Logins → Asks
asks_of (One settings) = one settings
asks_of (Many logins) = many logins

-- what a text asks for as this task, or why it asks for nothing
unfoldable pub judged_as : Task → List ℕ → Result Asks SettingsError
judged_as Rehearse text = unless_refused (judged text) (λ settings. Ok (one settings))
judged_as Batch text = unless_refused (logins_judged text) (λ logins. Ok (many logins))

-- each login is by a mechanism that is spoken
abbrev pub AreSpoken : Asks → Type 0
AreSpoken (one settings) = IsLoginSpoken settings
AreSpoken (many logins) = All IsLoginSpoken logins

-- ---- the report

-- a counter of steps, before and after
pub record StepCounts : Type 0 where
  pub before : ℕ
  pub after : ℕ

abbrev pub steps_of : ℕ → ℕ → StepCounts
steps_of before after = record { before = before; after = after }

-- of a login alone: its key was derived, if it comes to one, and the steps rose by just those rounds
pub record CountsKey (settings : Settings) (steps : StepCounts) : Type 0 where
  pub key : Option SaltedKey
  pub key_is : DerivesFrom settings key
  pub steps_are : steps.after ≡ steps.before + rounds_alone key

-- the text is the report of one login, which came out so, and the steps rose by its rounds
pub record ReportsOne (settings : Settings) (steps : StepCounts) (status : RehearsalStatus) (text : List ℕ) : Type 0 where
  pub report : IsReport settings text
  pub status_is : status ≡ status_of report.outcome
  pub counted : CountsKey settings steps

-- the text is the report of a batch, which came out so, and the steps rose by its rounds
pub record ReportsMany (settings : List Settings) (steps : StepCounts) (status : RehearsalStatus) (text : List ℕ) : Type 0 where
  pub batch : IsBatch settings text
  pub status_is : status ≡ status_of_all batch.logins
  pub steps_are : steps.after ≡ steps.before + rounds_of_all batch.logins

abbrev pub Reports : Asks → StepCounts → RehearsalStatus → List ℕ → Type 0
Reports (one settings) steps status text = ReportsOne settings steps status text
Reports (many logins) steps status text = ReportsMany logins steps status text

-- ---- what the reply bytes decide

-- reply bytes come out so: those of settings by a script or a refusal, those of a batch each for itself
abbrev pub LoginComesOut : Settings → RehearsalStatus → Type 0
LoginComesOut settings Accepted = LeadsToAcceptance settings
LoginComesOut settings Refused = IsRefused settings

abbrev pub AllComeOut : List Settings → RehearsalStatus → Type 0
AllComeOut [] status = status ≡ Accepted
AllComeOut (settings ∷ others) status = (first rest : RehearsalStatus) × LoginComesOut settings first × AllComeOut others rest × (status ≡ both first rest)

abbrev pub ComesOut : Asks → RehearsalStatus → Type 0
ComesOut (one settings) status = LoginComesOut settings status
ComesOut (many logins) status = AllComeOut logins status
