-- What an establishment over a link does, and what is told of it.
use Rattle.std.specs.Prelude.{◌≡◌, ℕ, ℤ, ◌^◌, ◌<◌, ◌⊎◌, Some, Result, List, [], length}
use Rattle.std.specs.Io.KnownBytes.{append_known}
use Rattle.mongo_wire.specs.Outside.{State}
use Rattle.mongo_command.specs.Exchange.{point}
use Rattle.mongo_scram.specs.declared.cache.SaltedCache.{SaltedCache}
use Rattle.mongo_scram.specs.Cache.{entries_of}
use Rattle.mongo_scram.specs.Costs.{ledgers, checkpoint}
use Rattle.mongo_establish.specs.declared.establisher.PooledConnection.{PooledConnection}
use Rattle.mongo_establish.specs.declared.establisher.EstablishError.{EstablishError}
use Rattle.mongo_establish.specs.Ending.{EndsEstablishment}
use Rattle.mongo_settings.specs.declared.settings.Settings.{Settings}
use Rattle.mongo_settings.specs.declared.rehearsal.Rehearsal.{Rehearsal}
use Rattle.mongo_settings.specs.Outcome.{setup_of}
use Rattle.mongo_settings.specs.Rehearsal.{IsRehearsal, LeftAs}
use Rattle.mongo_settings.specs.Task.{StepCounts, CountsKey}
use Rattle.mongo_settings.specs.Reporting.{ReportsOutcome}
use Rattle.mongo_connect.specs.Recording.{IsTakenCount}
use Rattle.mongo_connect.specs.Settings.{with_replies}
use Rattle.mongo_establish.specs.Setup.{start_of}

-- The connection that settings ask for was made, or was stopped as the establishment says: by its replies' refusal, a fault of
-- the link, an end, or want of memory. No key was held before it, and the steps rose by what it derived.
pub record Attempted (settings : Settings) (steps : StepCounts) (result : Result PooledConnection EstablishError) (old new : State) : Type 0 where
  pub after : ℤ
  pub held : SaltedCache
  pub none_held : entries_of held ≡ []
  pub held_after : SaltedCache
  pub ended : EndsEstablishment [] (setup_of settings) (start_of (setup_of settings) old (ledgers steps.before held)) (checkpoint (point new after) (ledgers steps.after held_after)) result

-- the report tells how it ended, by all that was written and how many bytes were taken
pub record IsConnectionReported (settings : Settings) (steps : StepCounts) (old new : State) (rehearsal : Rehearsal) : Type 0 where
  pub ended : Result PooledConnection EstablishError
  pub attempted : Attempted settings steps ended old new
  pub written : List ℕ
  pub appended : new.written ≡ append_known old.written written
  pub taken : ℕ
  pub counted : IsTakenCount old.left new.left taken
  pub tells : ReportsOutcome written taken ended rehearsal

-- no report was made: nothing was done, or what was done isn't told
abbrev pub IsUnreported : Settings → StepCounts → State → State → Type 0
IsUnreported settings steps old new = ((new ≡ old) × (steps.after ≡ steps.before)) ⊎ ((ended : Result PooledConnection EstablishError) × Attempted settings steps ended old new)

-- ---- a link that tells its bytes

-- These bytes are left, fewer of them than 64 bits count, and what was written is told too.
pub record TellsBytes (link : State) (bytes : List ℕ) : Type 0 where
  pub left : link.left ≡ Some bytes
  pub fits : length bytes < 2 ^ 64
  pub before : List ℕ
  pub written : link.written ≡ Some before

-- The report is the one that the settings have with these reply bytes, the link is left as it says, and the steps rose by the
-- rounds of the key that they lead to.
pub record ReportsConnection (settings : Settings) (bytes : List ℕ) (steps : StepCounts) (old new : State) (rehearsal : Rehearsal) : Type 0 where
  pub rehearsal_is : IsRehearsal (with_replies settings bytes) rehearsal
  pub left_as : LeftAs (with_replies settings bytes) rehearsal.report.items rehearsal_is.report old new
  pub counted : CountsKey (with_replies settings bytes) steps
