-- A report says how what was asked for came out.
use Rattle.std.proofs.Common.{◌≡◌, ℕ, ◌∙◌, sym, List}
use Rattle.mongo_settings.specs.Task.{StepCounts}
use Rattle.mongo_settings.specs.declared.rehearsal.RehearsalStatus.{RehearsalStatus}
use Rattle.mongo_settings.proofs.Outcomes as settings
use Rattle.mongo_login.specs.Job.{Asks, logins, relay, made, Reports, ComesOut}
use Rattle.mongo_login.proofs.Relayed.{relay_status}

pub reports_status : (asks : Asks) (steps : StepCounts) (status other : RehearsalStatus) (text : List ℕ) → Reports asks steps status text → ComesOut asks other → status ≡ other
reports_status (logins asks) steps status other text r out = settings.reports_status asks steps status other text r out
reports_status (relay asked) steps status other text r out = relay_status asked status other text r.0 out
reports_status (made count) steps status other text r out = r.0 ∙ sym out
