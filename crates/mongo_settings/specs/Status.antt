-- How a run of a program over settings ends: its number, and what decides it.
use Rattle.std.specs.Prelude.{◌≡◌, ℕ, ◌≤◌, ◌⊎◌, Result, Ok, Err, ⊤}
use Rattle.mongo_settings.specs.declared.settings.SettingsError.{SettingsError}
use Rattle.mongo_settings.specs.declared.settings.SettingsError.TheVariants.{BadSettings as Bad, NotBuilt as Unbuilt, OutOfMemory}
use Rattle.mongo_settings.specs.declared.rehearsal.RehearsalStatus.{RehearsalStatus}
use Rattle.mongo_settings.specs.declared.rehearsal.RehearsalStatus.TheVariants as rehearsal
use Rattle.mongo_settings.specs.declared.status.Status.{Status}
use Rattle.mongo_settings.specs.declared.status.Status.TheVariants.{Done, Refused, BadSettings, Usage, SourceFault, SinkFault, NoMemory, NotBuilt}
use Rattle.mongo_settings.specs.Run.{Run}

-- the number that the process ends with
abbrev pub code_of_status : Status → ℕ
code_of_status Done = 0
code_of_status Refused = 1
code_of_status BadSettings = 2
code_of_status Usage = 3
code_of_status SourceFault = 4
code_of_status SinkFault = 5
code_of_status NoMemory = 6
code_of_status NotBuilt = 7

-- the end of a report that was written whole
abbrev pub status_after : RehearsalStatus → Status
status_after rehearsal.Accepted = Done
status_after rehearsal.Refused = Refused

-- this end, or want of memory
abbrev pub EndsAs : Status → Status → Type 0
EndsAs status result = (result ≡ status) ⊎ (result ≡ NoMemory)

-- How a text is judged decides how a run ends where nothing fails: one that asks for something does by how that comes out.
abbrev pub JudgementDecides : {A : Type 0} → (A → RehearsalStatus → Type 0) → Result A SettingsError → Status → Type 0
JudgementDecides ComesOut (Ok setup) result = (status : RehearsalStatus) → ComesOut setup status → EndsAs (status_after status) result
JudgementDecides ComesOut (Err Bad) result = EndsAs BadSettings result
JudgementDecides ComesOut (Err Unbuilt) result = EndsAs NotBuilt result
JudgementDecides ComesOut (Err OutOfMemory) result = ⊤

-- a run counts steps only where it makes a connection
abbrev pub StepsAfter : Status → ℕ → ℕ → Type 0
StepsAfter BadSettings before after = after ≡ before
StepsAfter Usage before after = after ≡ before
StepsAfter SourceFault before after = after ≡ before
StepsAfter NotBuilt before after = after ≡ before
StepsAfter Done before after = before ≤ after
StepsAfter Refused before after = before ≤ after
StepsAfter SinkFault before after = before ≤ after
StepsAfter NoMemory before after = before ≤ after

-- nothing was read or written
pub record IsUntouched {S K : Type 0} (run : Run S K) : Type 0 where
  pub unread : run.source_after ≡ run.source
  pub unwritten : run.sink_after ≡ run.sink

-- A run whose words name no command ends with 3, and did nothing. With any other status a command ends.
abbrev pub UnlessUsage : {S K : Type 0} → Type 0 → Run S K → (Status → Type 0) → Status → Type 0
UnlessUsage misused run CommandEnds Usage = misused × IsUntouched run
UnlessUsage misused run CommandEnds status = CommandEnds status
