-- How a run ends, and what the link and the report's sink hold then.
use Rattle.std.specs.Prelude.{◌≡◌, ℕ, ◌<◌, ◌⊎◌, Some, Ok, Err, List, []}
use Rattle.std.specs.Io.KnownBytes.{Appends, Consumes}
use Rattle.std.specs.List.{concat}
use Rattle.mongo_wire.specs.Outside.{State, Rose, Unfailed, Unwritten, AppendsFront, IsFlushed, NoReadFailed, NoReadEnded, EndsAtMostOnce, NoWriteFailed}
use Rattle.mongo_settings.specs.declared.settings.Settings.{Settings}
use Rattle.mongo_settings.specs.declared.settings.SettingsError.{SettingsError}
use Rattle.mongo_settings.specs.declared.settings.SettingsError.TheVariants.{BadSettings as Bad, NotBuilt as Unbuilt}
use Rattle.mongo_settings.specs.declared.rehearsal.Rehearsal.{Rehearsal}
use Rattle.mongo_settings.specs.declared.rehearsal.RehearsalStatus.{RehearsalStatus}
use Rattle.mongo_settings.specs.declared.rehearsal.RehearsalStatus.TheVariants as rehearsal
use Rattle.mongo_settings.specs.declared.status.Status.{Status}
use Rattle.mongo_settings.specs.declared.status.Status.TheVariants.{Done, Refused, BadSettings, Usage, SourceFault, SinkFault, NoMemory, NotBuilt}
use Rattle.mongo_settings.specs.Run.{Run}
use Rattle.mongo_settings.specs.Status.{JudgementDecides, UnlessUsage}
use Rattle.mongo_settings.specs.Outcome.{taken_by, status_of}
use Rattle.mongo_settings.specs.Rehearsal.{IsReport}
use Rattle.mongo_settings.specs.Task.{StepCounts, CountsKey, LoginComesOut}
use Rattle.mongo_connect.specs.Connecting.{IsConnectionReported, IsUnreported, TellsBytes}
use Rattle.mongo_connect.specs.Input.{line_of, after_line, TakesOfLine, TakesNoLineFeed, LineRead}
use Rattle.mongo_connect.specs.Settings.{line_judged, with_replies}

-- ---- what was done over a link

-- The link told this input and didn't fail. Its first line is settings. The report is the one that they have with what follows as
-- their reply bytes: exactly its frames were written, and flushed, exactly the bytes that its outcome takes were taken, and the steps
-- rose by the rounds of the key that they lead to.
pub record Connected (input : List ℕ) (steps : StepCounts) (rehearsal : Rehearsal) (old new : State) : Type 0 where
  pub settings : Settings
  pub settings_are : line_judged (line_of input) ≡ Ok settings
  pub report : IsReport (with_replies settings (after_line input)) rehearsal.report.items
  pub status_is : rehearsal.status ≡ status_of report.outcome
  pub written : Appends old.written new.written (concat report.frames)
  pub flushed : (concat report.frames ≡ []) ⊎ IsFlushed new
  pub taken : Consumes (Some (after_line input)) new.left (taken_by report.outcome)
  pub counted : CountsKey (with_replies settings (after_line input)) steps

-- the first line was read and is settings, and what they ask for was done over what follows
pub record LineDone (P : Settings → State → State → Type 0) (old new : State) : Type 0 where
  pub line : List ℕ
  pub middle : State
  pub line_read : LineRead line old middle
  pub settings : Settings
  pub settings_are : line_judged line ≡ Ok settings
  pub done : P settings middle new

-- The report tells how the establishment ended that the first line asks for, also over a link that fails or tells nothing.
pub record Attempt (steps : StepCounts) (rehearsal : Rehearsal) (old new : State) : Type 0 where
  pub told : LineDone (λ settings middle after. IsConnectionReported settings steps middle after rehearsal) old new
  pub connected : (input : List ℕ) → TellsBytes old input → Unfailed old new → Connected input steps rehearsal old new

-- ---- the ends, one a status

module _ {L K : Type 0} (link : L → State) (sink : K → State) where
  -- the report was written whole after what was there, and flushed, and no write of it failed
  pub record ConnectReported (steps : StepCounts) (status : RehearsalStatus) (run : Run L K) : Type 0 where
    pub rehearsal : Rehearsal
    pub status_is : rehearsal.status ≡ status
    pub attempt : Attempt steps rehearsal (link run.source) (link run.source_after)
    pub written : Appends (sink run.sink).written (sink run.sink_after).written rehearsal.report.items
    pub flushed : IsFlushed (sink run.sink_after)
    pub sink_unfailed : NoWriteFailed (sink run.sink) (sink run.sink_after)

  -- the line was read and judged so, and nothing was written
  pub record IsRefusedLine (error : SettingsError) (run : Run L K) : Type 0 where
    pub line : List ℕ
    pub line_read : LineRead line (link run.source) (link run.source_after)
    pub judged_so : line_judged line ≡ Err error
    pub unreported : run.sink_after ≡ run.sink

  -- nothing past the line was read, nothing was written, and no step was counted
  pub record IsSilent (steps : StepCounts) (run : Run L K) : Type 0 where
    pub read : TakesOfLine (link run.source).left (link run.source_after).left
    pub unwritten : Unwritten (link run.source) (link run.source_after)
    pub unreported : run.sink_after ≡ run.sink
    pub uncounted : steps.after ≡ steps.before

  -- the link failed before the line was read: no line feed was, and no end was met
  pub record LinkFailed (steps : StepCounts) (run : Run L K) : Type 0 where
    pub rose : Rose (link run.source).read_faults (link run.source_after).read_faults
    pub unended : NoReadEnded (link run.source) (link run.source_after)
    pub stopped : TakesNoLineFeed (link run.source).left (link run.source_after).left
    pub silent : IsSilent steps run

  -- memory ran out before there were settings: no read of the line failed
  pub record LineRanOut (steps : StepCounts) (run : Run L K) : Type 0 where
    pub unfailed : NoReadFailed (link run.source) (link run.source_after)
    pub ended : EndsAtMostOnce (link run.source) (link run.source_after)
    pub silent : IsSilent steps run

  -- a front of the report was written after what was there
  pub record ReportedFront (steps : StepCounts) (run : Run L K) : Type 0 where
    pub rehearsal : Rehearsal
    pub attempt : Attempt steps rehearsal (link run.source) (link run.source_after)
    pub front : AppendsFront (sink run.sink).written (sink run.sink_after).written rehearsal.report.items

  -- the report's sink failed
  pub record ConnectSinkFailed (steps : StepCounts) (run : Run L K) : Type 0 where
    pub rose : Rose (sink run.sink).write_faults (sink run.sink_after).write_faults
    pub front : ReportedFront steps run

  -- memory ran out while the report was written, and no write of it failed
  pub record ReportRanOut (steps : StepCounts) (run : Run L K) : Type 0 where
    pub sink_unfailed : NoWriteFailed (sink run.sink) (sink run.sink_after)
    pub front : ReportedFront steps run

  -- what the settings ask for has no report, and none was begun
  pub record Unreported (steps : StepCounts) (run : Run L K) : Type 0 where
    pub setup : LineDone (λ settings middle after. IsUnreported settings steps middle after) (link run.source) (link run.source_after)
    pub unreported : run.sink_after ≡ run.sink

  -- how a run on a line ends, and the steps that it counted
  abbrev pub Ends : StepCounts → Run L K → Status → Type 0
  Ends steps run Done = ConnectReported steps rehearsal.Accepted run
  Ends steps run Refused = ConnectReported steps rehearsal.Refused run
  Ends steps run BadSettings = IsRefusedLine Bad run
  Ends steps run Usage = ⊥
  Ends steps run SourceFault = LinkFailed steps run
  Ends steps run SinkFault = ConnectSinkFailed steps run
  Ends steps run NoMemory = LineRanOut steps run ⊎ (Unreported steps run ⊎ ReportRanOut steps run)
  Ends steps run NotBuilt = IsRefusedLine Unbuilt run

  -- there are no words, and it ends so
  pub record RanLine (words : ℕ) (steps : StepCounts) (run : Run L K) (status : Status) : Type 0 where
    pub none : words ≡ 0
    pub ends : Ends steps run status

  -- how a run with so many words ends: on a line without any, and having done nothing with some
  abbrev pub ConnectRunEnds : ℕ → StepCounts → Run L K → Status → Type 0
  ConnectRunEnds words steps run status = UnlessUsage (0 < words) run (RanLine words steps run) status

  -- ---- what decides

  -- the link and the sink didn't fail
  pub record ConnectUnfailed (run : Run L K) : Type 0 where
    pub link_unfailed : Unfailed (link run.source) (link run.source_after)
    pub writes : Rose (sink run.sink).write_faults (sink run.sink_after).write_faults → ⊥

-- how what follows the line comes out as the reply bytes of its settings
abbrev pub LineComesOut : List ℕ → Settings → RehearsalStatus → Type 0
LineComesOut bytes settings status = LoginComesOut (with_replies settings bytes) status

-- Where nothing fails and there are no words, the link's bytes decide; want of memory may stand in its place.
abbrev pub ConnectDecided : {L K : Type 0} → (L → State) → (K → State) → ℕ → Run L K → Status → Type 0
ConnectDecided link sink words run result = words ≡ 0 → ConnectUnfailed link sink run → (input : List ℕ) → TellsBytes (link run.source) input → JudgementDecides (LineComesOut (after_line input)) (line_judged (line_of input)) result
