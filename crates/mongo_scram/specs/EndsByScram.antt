-- A SCRAM login: it ends by its script, and takes so much of the counter and of the cache.
use Rattle.std.specs.Prelude.{◌≡◌, ◌⊎◌, Result, None, Some, [], IfErr, OnOk, OnErr}
use Rattle.mongo_wire.specs.declared.error.Error.{Error}
use Rattle.mongo_wire.specs.declared.error.ErrorKind.{ErrorKind}
use Rattle.mongo_wire.specs.Outside.{State}
use Rattle.mongo_command.specs.Connection.{kept_fault}
use Rattle.mongo_sasl.specs.EndsByScript.{Standing, EndsByScript, point_at}
use Rattle.mongo_sasl.specs.Login.{unasked}
use Rattle.mongo_scram.specs.Costs.{Ledgers, Checkpoint, checkpoint, SameEntries, Accepted, StoppedScram, FaultCosts, ScramRefused}
use Rattle.mongo_scram.specs.Plan.{Handed, scram_plan}
use Rattle.mongo_scram.specs.Script.{IsScramLogin}

-- a login that stands so, with its counter and cache
abbrev pub checkpoint_at : {L : Type 0} → (L → State) → Standing L → Ledgers → Checkpoint
checkpoint_at state standing ledgers = checkpoint (point_at state standing) ledgers

-- A login that was handed this ends so.
pub record EndsByScram {L : Type 0} (state : L → State) (handed : Handed) (result : Result (Unit {0}) Error) (old new : Standing L) (earlier later : Ledgers) : Type 0 where
  pub script : EndsByScript [] state (scram_plan handed) (unasked (IsScramLogin handed)) handed.maximum result old new
  -- the server's last message was taken for its verifier, equal as a whole; the buffer holds its frame, and the key has an entry
  pub accepted : OnOk result (Accepted handed new.buffer (checkpoint_at state old earlier) (checkpoint_at state new later))
  -- whether the key was derived before a refusal
  pub refused : kept_fault old.connection ≡ None → IfErr result (λ e. StoppedScram handed e.kind (checkpoint_at state old earlier) (checkpoint_at state new later))
  -- A fault that the connection keeps is answered in place of the first exchange, unless the login is refused before it comes
  -- to one. Where that is its first message's, nothing was derived, counted or put in.
  pub answers : (kind : ErrorKind) → kept_fault old.connection ≡ Some kind → IfErr result (λ e. ((e.kind ≡ kind) × FaultCosts handed earlier later) ⊎ ScramRefused handed e.kind earlier later)
  -- a refusal leaves the entries as they were
  pub entries : OnErr result (SameEntries earlier later)
