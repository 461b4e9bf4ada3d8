-- The report of settings, what a rehearsal answers, and how it leaves its link.
use Rattle.std.specs.Prelude.{◌≡◌, ℕ, ◌⊎◌, List, [], ◌++◌, length}
use Rattle.std.specs.Io.KnownBytes.{Appends, Consumes}
use Rattle.std.specs.List.{AllByRecursion, concat}
use Rattle.mongo_wire.specs.Outside.{State, IsFlushed}
use Rattle.mongo_establish.specs.Generation.{generation_of}
use Rattle.mongo_settings.specs.declared.settings.Settings.{Settings}
use Rattle.mongo_settings.specs.declared.rehearsal.Rehearsal.{Rehearsal}
use Rattle.mongo_settings.specs.Report.{CountsItself, sent_lines, read_count_line, accepted_lines, refused_lines}
use Rattle.mongo_settings.specs.Outcome.{setup_of, Outcome, accepted, refused, IsOutcome, WritesOutcome, taken_by, status_of}

-- the lines that say how it came out
abbrev pub outcome_lines : Settings → Outcome → List ℕ
outcome_lines settings (accepted acceptance) =
    let greeting = acceptance.script.greeting in
    accepted_lines greeting.description (generation_of (setup_of settings).pending.generation greeting.description) greeting.connection_id
outcome_lines settings (refused refusal) = refused_lines refusal.phase refusal.kind

-- the frames that were written, how many reply bytes were taken, and how it came out
abbrev pub report_of : Settings → Outcome → List (List ℕ) → List ℕ
report_of settings outcome frames = sent_lines frames ++ (read_count_line (length (taken_by outcome)) ++ outcome_lines settings outcome)

-- The text is the report of settings: of their outcome, with the frames of its commands.
pub record IsReport (settings : Settings) (text : List ℕ) : Type 0 where
  pub outcome : Outcome
  pub is_outcome : IsOutcome settings outcome
  pub frames : List (List ℕ)
  pub each_frame : AllByRecursion CountsItself frames
  pub sent : WritesOutcome settings outcome (concat frames)
  pub text_is : text ≡ report_of settings outcome frames

-- the rehearsal has the report of settings, and says how it came out
pub record IsRehearsal (settings : Settings) (rehearsal : Rehearsal) : Type 0 where
  pub report : IsReport settings rehearsal.report.items
  pub status_is : rehearsal.status ≡ status_of report.outcome

-- The link is left as the report says: exactly its frames were written, and flushed; exactly what its outcome takes was read.
pub record LeftAs (settings : Settings) (text : List ℕ) (report : IsReport settings text) (old new : State) : Type 0 where
  pub written : Appends old.written new.written (concat report.frames)
  pub flushed : (concat report.frames ≡ []) ⊎ IsFlushed new
  pub taken : Consumes old.left new.left (taken_by report.outcome)
