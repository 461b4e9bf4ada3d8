-- How a run ends, and what the source and the sink hold then.
use Rattle.std.specs.Prelude.{◌≡◌, ℕ, ◌+◌, ◌⊎◌, Some, Ok, Err, List, []}
use Rattle.mongo_wire.specs.Outside.{State, Rose, ConsumesAtMost, NoReadFailed, NoReadEnded, EndsAtMostOnce}
use Rattle.mongo_settings.specs.declared.settings.SettingsError.TheVariants.{BadSettings as Bad, NotBuilt as Unbuilt}
use Rattle.mongo_settings.specs.declared.status.Status.{Status}
use Rattle.mongo_settings.specs.declared.status.Status.TheVariants.{Done, Refused, BadSettings, Usage, SourceFault, SinkFault, NoMemory, NotBuilt}
use Rattle.mongo_settings.specs.Run.{Run, GaveInput}
use Rattle.mongo_settings.specs.Settings.{maximum_settings_length}
use Rattle.mongo_settings.specs.Status.{EndsAs, JudgementDecides, UnlessUsage}
use Rattle.mongo_settings.specs.Task.{StepCounts}
use Rattle.mongo_login.specs.declared.job.Job.{Job}
use Rattle.mongo_login.specs.declared.words.Subcommand.{Subcommand}
use Rattle.mongo_login.specs.declared.words.Subcommand.TheVariants.{Read, Generate}
use Rattle.mongo_login.specs.Finish.{FinishEnds, WriteRanOut}
use Rattle.mongo_login.specs.Input.{ReadsInput, MeetsEndWithin}
use Rattle.mongo_login.specs.Job.{Asks, ComesOut, judged_as, made}
use Rattle.mongo_login.specs.Words.{NamesSubcommand, NamesNone}

-- ---- the ends, one a status

module _ {S K : Type 0} (source : S → State) (sink : K → State) where
  -- The source was read to its end, and no read failed; its bytes ask for this.
  pub record AskedFor (job : Job) (asks : Asks) (run : Run S K) : Type 0 where
    pub unfailed : NoReadFailed (source run.source) (source run.source_after)
    pub ended : Rose (source run.source).ends (source run.source_after).ends
    pub read : GaveInput (source run.source) (λ input. (source run.source_after).left ≡ Some [])
    pub judged_so : GaveInput (source run.source) (λ input. judged_as job input ≡ Ok asks)

  -- that was done, and exactly its report was written, or a front of it where the sink failed
  pub record Finished (job : Job) (steps : StepCounts) (run : Run S K) (status : Status) : Type 0 where
    pub asks : Asks
    pub asked_for : AskedFor job asks run
    pub ends : FinishEnds sink asks steps run.sink run.sink_after status

  -- the text asks for nothing: it was read to its end, or to one byte past the greatest length, no read failed, and nothing was
  -- written
  pub record IsBad (job : Job) (run : Run S K) : Type 0 where
    pub unfailed : NoReadFailed (source run.source) (source run.source_after)
    pub judged_so : GaveInput (source run.source) (λ input. judged_as job input ≡ Err Bad)
    pub held : List ℕ
    pub ended : MeetsEndWithin held (source run.source) (source run.source_after)
    pub read : GaveInput (source run.source) (λ input. ReadsInput input held (source run.source_after).left)
    pub unwritten : run.sink_after ≡ run.sink

  -- a key that isn't read yet: the source was read to its end, no read failed, and nothing was written
  pub record IsUnbuilt (job : Job) (run : Run S K) : Type 0 where
    pub unfailed : NoReadFailed (source run.source) (source run.source_after)
    pub judged_so : GaveInput (source run.source) (λ input. judged_as job input ≡ Err Unbuilt)
    pub ended : Rose (source run.source).ends (source run.source_after).ends
    pub read : GaveInput (source run.source) (λ input. (source run.source_after).left ≡ Some [])
    pub unwritten : run.sink_after ≡ run.sink

  -- the source failed: no end was met before that, no more than one byte past the greatest length was read, and nothing was written
  pub record SourceFailed (run : Run S K) : Type 0 where
    pub unended : NoReadEnded (source run.source) (source run.source_after)
    pub rose : Rose (source run.source).read_faults (source run.source_after).read_faults
    pub read : ConsumesAtMost (source run.source).left (source run.source_after).left (maximum_settings_length + 1)
    pub unwritten : run.sink_after ≡ run.sink

  -- memory ran out while the report was written
  pub record RanOutWriting (job : Job) (steps : StepCounts) (run : Run S K) : Type 0 where
    pub asks : Asks
    pub asked_for : AskedFor job asks run
    pub wrote : WriteRanOut asks steps (sink run.sink) (sink run.sink_after)

  -- memory ran out: no more than one byte past the greatest length was read, no read and no write failed, and at most a front of
  -- the report was written
  pub record JobRanOut (job : Job) (steps : StepCounts) (run : Run S K) : Type 0 where
    pub unfailed : NoReadFailed (source run.source) (source run.source_after)
    pub ended : EndsAtMostOnce (source run.source) (source run.source_after)
    pub read : ConsumesAtMost (source run.source).left (source run.source_after).left (maximum_settings_length + 1)
    pub wrote : (run.sink_after ≡ run.sink) ⊎ RanOutWriting job steps run

  -- how a job ends, and the steps that it counted
  abbrev pub JobEnds : Job → StepCounts → Run S K → Status → Type 0
  JobEnds job steps run Done = Finished job steps run Done
  JobEnds job steps run Refused = Finished job steps run Refused
  JobEnds job steps run BadSettings = IsBad job run
  JobEnds job steps run Usage = ⊥
  JobEnds job steps run SourceFault = SourceFailed run
  JobEnds job steps run SinkFault = Finished job steps run SinkFault
  JobEnds job steps run NoMemory = JobRanOut job steps run
  JobEnds job steps run NotBuilt = IsUnbuilt job run

  -- logins are made, and nothing is read
  pub record RanGenerate (count : ℕ) (steps : StepCounts) (run : Run S K) (status : Status) : Type 0 where
    pub unread : run.source_after ≡ run.source
    pub ends : FinishEnds sink (made count) steps run.sink run.sink_after status

  abbrev pub SubcommandEnds : Subcommand → StepCounts → Run S K → Status → Type 0
  SubcommandEnds (Read job) steps run status = JobEnds job steps run status
  SubcommandEnds (Generate count) steps run status = RanGenerate count steps run status

  -- the words name a subcommand that ends so
  pub record RanSubcommand (words : List (List ℕ)) (steps : StepCounts) (run : Run S K) (status : Status) : Type 0 where
    pub command : Subcommand
    pub named : NamesSubcommand words command
    pub ends : SubcommandEnds command steps run status

  -- how a run ends: as the subcommand that its words name, or having done nothing where they name none
  abbrev pub LoginRunEnds : List (List ℕ) → StepCounts → Run S K → Status → Type 0
  LoginRunEnds words steps run status = UnlessUsage (NamesNone words) run (RanSubcommand words steps run) status

  -- ---- what decides

  -- the source and the sink didn't fail
  pub record RunUnfailed (run : Run S K) : Type 0 where
    pub reads : Rose (source run.source).read_faults (source run.source_after).read_faults → ⊥
    pub writes : Rose (sink run.sink).write_faults (sink run.sink_after).write_faults → ⊥

-- a job ends as its text asks, and logins that are made are all accepted
abbrev pub SubcommandDecides : {S K : Type 0} → (S → State) → (K → State) → Subcommand → Run S K → Status → Type 0
SubcommandDecides source sink (Read job) run result = GaveInput (source run.source) (λ input. JudgementDecides ComesOut (judged_as job input) result)
SubcommandDecides source sink (Generate count) run result = EndsAs Done result

-- Where nothing fails, the words and the text decide; want of memory may stand in its place.
abbrev pub IsDecided : {S K : Type 0} → (S → State) → (K → State) → List (List ℕ) → Run S K → Status → Type 0
IsDecided source sink words run result = (command : Subcommand) → NamesSubcommand words command → RunUnfailed source sink run → SubcommandDecides source sink command run result
