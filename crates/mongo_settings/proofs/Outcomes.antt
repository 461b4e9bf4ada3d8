-- How the logins of a task come out is decided by their reply bytes.
use Rattle.std.proofs.Common.{◌≡◌, ℕ, ◌∙◌, ap, subst, sym, List, [], ◌∷◌, map}
use Rattle.std.specs.List.{concat}
use Rattle.mongo_scram.specs.declared.cache.SaltedKey.{SaltedKey}
use Rattle.mongo_settings.specs.declared.settings.Settings.{Settings}
use Rattle.mongo_settings.specs.declared.rehearsal.RehearsalStatus.{RehearsalStatus}
use Rattle.mongo_settings.specs.declared.rehearsal.RehearsalStatus.TheVariants.{Accepted, Refused}
use Rattle.mongo_settings.specs.Outcome.{status_of}
use Rattle.mongo_settings.specs.Rehearsal.{IsReport}
use Rattle.mongo_settings.specs.Batch.{BatchLogin, keys_with, AreLogins, both, status_of_all}
use Rattle.mongo_settings.specs.Task.{Asks, one, many, StepCounts, Reports, LoginComesOut, AllComeOut, ComesOut}
use Rattle.mongo_settings.proofs.OneReport.{accepted_status, refused_status}

pub one_status : (settings : Settings) (text : List ℕ) (report : IsReport settings text) (status : RehearsalStatus) → LoginComesOut settings status → status_of report.outcome ≡ status
one_status settings text report Accepted script = accepted_status settings report.outcome script report.is_outcome
one_status settings text report Refused refusal = refused_status settings report.outcome (concat report.frames) refusal report.is_outcome report.sent

all_status : (keys : List SaltedKey) (logins : List BatchLogin) (status : RehearsalStatus) → AreLogins keys logins → AllComeOut (map (λ login. login.settings) logins) status → status_of_all logins ≡ status
unfolding AreLogins
all_status keys [] status are out = sym out
all_status keys (login ∷ others) status are out =
    let is = are.0 in
    let first : login.status ≡ out.0 = is.status_is ∙ one_status login.settings login.text is.report out.0 out.2 in
    let rest : status_of_all others ≡ out.1 = all_status (keys_with keys login) others out.1 are.1 out.3 in
    ap (λ s. both s (status_of_all others)) first ∙ ap (both out.0) rest ∙ sym out.4

-- a report says how its logins come out
pub reports_status : (asks : Asks) (steps : StepCounts) (status other : RehearsalStatus) (text : List ℕ) → Reports asks steps status text → ComesOut asks other → status ≡ other
reports_status (one settings) steps status other text r out = r.status_is ∙ one_status settings text r.report other out
reports_status (many settings) steps status other text r out = r.status_is ∙ all_status [] r.batch.logins other r.batch.are_logins (subst (λ l. AllComeOut l other) (sym r.batch.settings_are) out)
