-- The jobs: what a text asks for, what is told of it, and how it comes out. A command has one case in each.
use Rattle.std.specs.Prelude.{◌≡◌, ℕ, ◌≤◌, Result, Ok, List, ⊤}
use Rattle.mongo_settings.specs.Settings.{unless_refused}
use Rattle.mongo_settings.specs.Task as task
use Rattle.mongo_settings.specs.Task.{StepCounts}
use Rattle.mongo_settings.specs.declared.rehearsal.RehearsalStatus.{RehearsalStatus}
use Rattle.mongo_settings.specs.declared.rehearsal.RehearsalStatus.TheVariants.{Accepted}
use Rattle.mongo_settings.specs.declared.settings.SettingsError.{SettingsError}
use Rattle.mongo_login.specs.Generated.{ReportsLogins}
use Rattle.mongo_login.specs.Proxy.{proxy_judged, TellsRelay, RelayComesOut}
use Rattle.mongo_login.specs.Words.{maximum_logins}
use Rattle.mongo_login.specs.declared.job.Asked.{Asked}
use Rattle.mongo_login.specs.declared.job.Asked.TheVariants.{Logins, Relay, Made}
use Rattle.mongo_login.specs.declared.job.Job.{Job}
use Rattle.mongo_login.specs.declared.job.Job.TheVariants.{Login, Proxy}
use Rattle.mongo_login.specs.declared.proxy.ProxySettings.{ProxySettings}

-- what is asked for: logins by settings, a relay, or so many logins of the program's own
pub data Asks : Type 0 where
  logins : task.Asks → Asks
  relay : ProxySettings → Asks
  made : ℕ → Asks

abbrev pub asks_of : Asked → Asks
asks_of (Logins asked) = logins (task.asks_of asked)
asks_of (Relay asked) = relay asked
asks_of (Made count) = made count

-- what a text asks for as this job, or why it asks for nothing
unfoldable pub judged_as : Job → List ℕ → Result Asks SettingsError
judged_as (Login one) text = unless_refused (task.judged_as one text) (λ asks. Ok (logins asks))
judged_as Proxy text = unless_refused (proxy_judged text) (λ asked. Ok (relay asked))

-- what can be done
abbrev pub AreSpoken : Asks → Type 0
AreSpoken (logins asks) = task.AreSpoken asks
AreSpoken (relay asked) = ⊤
AreSpoken (made count) = count ≤ maximum_logins

-- the text tells of what was done, which came out so, and by which the steps rose
abbrev pub Reports : Asks → StepCounts → RehearsalStatus → List ℕ → Type 0
Reports (logins asks) steps status text = task.Reports asks steps status text
Reports (relay asked) steps status text = TellsRelay asked status text × (steps.after ≡ steps.before)
Reports (made count) steps status text = (status ≡ Accepted) × ReportsLogins count steps text

-- what was asked for decides how it comes out
abbrev pub ComesOut : Asks → RehearsalStatus → Type 0
ComesOut (logins asks) status = task.ComesOut asks status
ComesOut (relay asked) status = RelayComesOut asked status
ComesOut (made count) status = status ≡ Accepted
