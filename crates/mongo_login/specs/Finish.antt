-- How what was asked for is done and its report written, between a sink before and after.
use Rattle.std.specs.Prelude.{◌≡◌, ℕ, ◌⊎◌, List}
use Rattle.std.specs.Io.KnownBytes.{Appends}
use Rattle.mongo_wire.specs.Outside.{State, Rose, AppendsFront, IsFlushed, NoWriteFailed}
use Rattle.mongo_settings.specs.Task.{StepCounts}
use Rattle.mongo_settings.specs.declared.rehearsal.RehearsalStatus.{RehearsalStatus}
use Rattle.mongo_settings.specs.declared.rehearsal.RehearsalStatus.TheVariants as rehearsal
use Rattle.mongo_settings.specs.declared.status.Status.{Status}
use Rattle.mongo_settings.specs.declared.status.Status.TheVariants.{Done, Refused, SinkFault, NoMemory}
use Rattle.mongo_login.specs.Job.{Asks, Reports}

-- the report was written whole after what was there, and flushed, and no write failed
pub record Wrote (asks : Asks) (steps : StepCounts) (status : RehearsalStatus) (sink sink_after : State) : Type 0 where
  pub sink_unfailed : NoWriteFailed sink sink_after
  pub text : List ℕ
  pub reports : Reports asks steps status text
  pub written : Appends sink.written sink_after.written text
  pub flushed : IsFlushed sink_after

-- a front of it was written after what was there
pub record WroteFront (asks : Asks) (steps : StepCounts) (sink sink_after : State) : Type 0 where
  pub status : RehearsalStatus
  pub text : List ℕ
  pub reports : Reports asks steps status text
  pub front : AppendsFront sink.written sink_after.written text

-- the sink failed
pub record WriteFailed (asks : Asks) (steps : StepCounts) (sink sink_after : State) : Type 0 where
  pub rose : Rose sink.write_faults sink_after.write_faults
  pub wrote : WroteFront asks steps sink sink_after

-- memory ran out while it was written, and no write failed
pub record WriteRanOut (asks : Asks) (steps : StepCounts) (sink sink_after : State) : Type 0 where
  pub sink_unfailed : NoWriteFailed sink sink_after
  pub wrote : WroteFront asks steps sink sink_after

-- Want of memory may come before anything is written, or while it is.
abbrev pub FinishEnds : {K : Type 0} → (K → State) → Asks → StepCounts → K → K → Status → Type 0
FinishEnds sink asks steps old new Done = Wrote asks steps rehearsal.Accepted (sink old) (sink new)
FinishEnds sink asks steps old new Refused = Wrote asks steps rehearsal.Refused (sink old) (sink new)
FinishEnds sink asks steps old new SinkFault = WriteFailed asks steps (sink old) (sink new)
FinishEnds sink asks steps old new NoMemory = (new ≡ old) ⊎ WriteRanOut asks steps (sink old) (sink new)
FinishEnds sink asks steps old new status = ⊥
