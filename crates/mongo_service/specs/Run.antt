-- How a run ends.
use Rattle.std.specs.Prelude.{◌≡◌, ℕ, ◌<◌, ◌⊎◌, Option, None, Some, List}
use Rattle.std.specs.Io.KnownBytes.{Appends}
use Rattle.mongo_wire.specs.Outside.{State, Rose, AppendsFront, IsFlushed, NoWriteFailed}
use Rattle.mongo_service.specs.declared.fault.ServeFault.{ServeFault}
use Rattle.mongo_service.specs.declared.fault.ServeFault.TheVariants as fault
use Rattle.mongo_service.specs.declared.serve.Served.{Served}
use Rattle.mongo_session.specs.declared.serve_settings.ServeSettings.{ServeSettings}
use Rattle.mongo_service.specs.declared.status.ServeStatus.{ServeStatus}
use Rattle.mongo_service.specs.declared.status.ServeStatus.TheVariants.{Ended, Broken, BadSettings, Usage, NoMemory}
use Rattle.mongo_service.specs.Line.{IsAfterLine, HasNoSettings, LineFails, LineRunsOut}
use Rattle.mongo_service.specs.Report.{report_text, line_failed, no_memory, no_settings}
use Rattle.mongo_service.specs.Served.{IsServed}

-- the number that the process ends with
abbrev pub serve_code : ServeStatus → ℕ
serve_code Ended = 0
serve_code Broken = 1
serve_code BadSettings = 2
serve_code Usage = 3
serve_code NoMemory = 6

-- the status by how the stream was left
abbrev pub status_of_fault : Option ServeFault → ServeStatus
status_of_fault None = Ended
status_of_fault (Some fault.OutOfMemory) = NoMemory
status_of_fault (Some other) = Broken

-- what the link, the report and the counter of steps are before a run and after it
pub record ServeRun : Type 0 where
  pub old : State
  pub new : State
  pub report_old : State
  pub report_new : State
  pub steps_old : ℕ
  pub steps_new : ℕ

-- the text stands whole in what was written, and is flushed, or the sink failed
abbrev pub IsReportedWhole : State → State → List ℕ → Type 0
IsReportedWhole old new text = (Appends old.written new.written text × IsFlushed new × NoWriteFailed old new) ⊎ Rose old.write_faults new.write_faults

-- it doesn't, since memory ran out
abbrev pub IsReportLost : State → State → ServeStatus → Type 0
IsReportLost old new status = (status ≡ NoMemory) × NoWriteFailed old new

-- A run that says this text of itself ends with the status that it is to end with, or with NoMemory where memory ran out for the text. A
-- front of the text is written.
pub record EndsReporting (old new : State) (text : List ℕ) (wanted status : ServeStatus) : Type 0 where
  pub front : AppendsFront old.written new.written text
  pub whole : ((status ≡ wanted) × IsReportedWhole old new text) ⊎ IsReportLost old new status

abbrev pub WritesReport : ServeRun → List ℕ → ServeStatus → ServeStatus → Type 0
WritesReport run text wanted status = EndsReporting run.report_old run.report_new text wanted status

-- The first line was read as these settings, what follows it was served, and status and report say how that ended.
pub record Ran (run : ServeRun) (status : ServeStatus) : Type 0 where
  pub settings : ServeSettings
  pub between : State
  pub after_line : IsAfterLine run.old between settings
  pub served : Served
  pub is_served : IsServed settings between run.new run.steps_old run.steps_new served
  pub told : WritesReport run (report_text served) (status_of_fault served.fault) status

-- nothing was written to the link
abbrev pub SendsNothing : ServeRun → Type 0
SendsNothing run = run.new.written ≡ run.old.written

-- and no key was derived
abbrev pub CostsNoStep : ServeRun → Type 0
CostsNoStep run = run.steps_new ≡ run.steps_old

-- the first line is no settings
abbrev pub HasBadLine : ServeRun → ServeStatus → Type 0
HasBadLine run status = HasNoSettings run.old run.new × SendsNothing run × WritesReport run no_settings BadSettings status × CostsNoStep run

-- the link failed within it
abbrev pub FailsWithin : ServeRun → ServeStatus → Type 0
FailsWithin run status = LineFails run.old run.new × SendsNothing run × WritesReport run line_failed Broken status × CostsNoStep run

-- memory ran out within it
abbrev pub RunsOutWithin : ServeRun → ServeStatus → Type 0
RunsOutWithin run status = LineRunsOut run.old run.new × SendsNothing run × WritesReport run no_memory NoMemory status × CostsNoStep run

-- How a run without words ends. The link may fail, and memory run out, before there are settings: then no more than the first line was
-- taken. Memory may run out for the report too, however the run is to end.
abbrev pub ServingEnds : ServeRun → ServeStatus → Type 0
ServingEnds run Ended = Ran run Ended
ServingEnds run Broken = Ran run Broken ⊎ FailsWithin run Broken
ServingEnds run BadSettings = HasBadLine run BadSettings
ServingEnds run NoMemory = Ran run NoMemory ⊎ (RunsOutWithin run NoMemory ⊎ (FailsWithin run NoMemory ⊎ HasBadLine run NoMemory))
ServingEnds run Usage = ⊥

-- nothing was read or written
abbrev pub NeitherReadsNorWrites : ServeRun → Type 0
NeitherReadsNorWrites run = (run.new ≡ run.old) × (run.report_new ≡ run.report_old)

-- how a run ends, with so many words after the program's name: it takes none
abbrev pub ServeRunEnds : ℕ → ServeRun → ServeStatus → Type 0
ServeRunEnds words run Usage = (0 < words) × NeitherReadsNorWrites run × CostsNoStep run
ServeRunEnds words run status = (words ≡ 0) × ServingEnds run status
