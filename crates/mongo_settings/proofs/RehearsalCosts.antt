-- What a rehearsal takes, from what its establishment cost over the reply bytes.
use Rattle.std.proofs.Common.{◌≡◌, ℕ, ◌+◌, ap, subst, sym, refl, inl, inr, Bool, true, false, Option, None, Some, Result, Ok, Err, List, [], IfOk, Contains}
use Rattle.mongo_wire.specs.declared.error.ErrorKind.{ErrorKind}
use Rattle.mongo_wire.specs.declared.error.ErrorKind.TheVariants.{IncompatibleServer, OutOfMemory}
use Rattle.mongo_wire.specs.Outside.{State}
use Rattle.mongo_scram.specs.declared.cache.SaltedKey.{SaltedKey}
use Rattle.mongo_scram.specs.Cache.{entries_of}
use Rattle.mongo_scram.specs.Costs.{Ledgers, Derives}
use Rattle.mongo_establish.specs.declared.establisher.EstablishError.{EstablishError}
use Rattle.mongo_establish.specs.declared.establisher.PooledConnection.{PooledConnection}
use Rattle.mongo_establish.specs.Setup.{Setup}
use Rattle.mongo_establish.specs.KeyCosts.{LedToKey, CostsOver, CostsAsLed}
use Rattle.mongo_settings.specs.declared.settings.Settings.{Settings}
use Rattle.mongo_settings.specs.declared.rehearsal.Rehearsal.{Rehearsal}
use Rattle.mongo_settings.specs.Outcome.{setup_of}
use Rattle.mongo_settings.specs.Rehearsal.{IsRehearsal}
use Rattle.mongo_settings.specs.Rounds.{is_after_login, logs_in, rounds_alone}
use Rattle.mongo_settings.specs.Costs.{CostsBy, has_logged_in, CostsLedgers, CostsAsReported}
use Rattle.mongo_settings.specs.Task.{CountsKey, ReportsOne, steps_of}
use Rattle.mongo_settings.specs.Reporting.{IsReported, ReportsOutcome}
use Rattle.mongo_settings.proofs.Rehearsing.{Replayed, Replays}
use Rattle.mongo_settings.proofs.Sharing.{nothing_in}

before_login : (kind : ErrorKind) → (kind ≡ IncompatibleServer → ⊥) → is_after_login kind ≡ false
before_login IncompatibleServer other = absurd (other refl)
before_login kind other = refl

took : (settings : Settings) (accepted : Bool) (first last : Ledgers) → LedToKey (setup_of settings) settings.replies (λ key. CostsBy accepted key first last) → CostsLedgers settings accepted first last
took settings accepted first last t = record { key = t.key; key_is = t.leads; taken = t.taken }

takes_over : (settings : Settings) (first last : Ledgers) (ended : Result PooledConnection EstablishError) → CostsOver ended (setup_of settings) settings.replies first last → ((e : EstablishError) → ended ≡ Err e → IsReported e.cause.kind) → CostsLedgers settings (has_logged_in ended) first last
takes_over settings first last (Ok pooled) costs reported = took settings true first last costs
takes_over settings first last (Err e) (inl memory) reported = absurd (subst IsReported memory (reported e refl))
takes_over settings first last (Err e) (inr (inl unnamed)) reported = subst (λ b. CostsLedgers settings b first last) (sym (ap is_after_login unnamed.kind_is)) (took settings true first last unnamed.led)
takes_over settings first last (Err e) (inr (inr refused)) reported = subst (λ b. CostsLedgers settings b first last) (sym (before_login e.cause.kind refused.other)) (took settings false first last refused.led)

told_cause : (written : List ℕ) (count : ℕ) (ended : Result PooledConnection EstablishError) (x : Rehearsal) → ReportsOutcome written count ended x → (e : EstablishError) → ended ≡ Err e → IsReported e.cause.kind
told_cause written count (Ok pooled) x tells e is = cc
told_cause written count (Err refusal) x tells e is = subst (λ (r : Result PooledConnection EstablishError). caused r) is tells.reported where
  caused : Result PooledConnection EstablishError → Type 0
  caused (Ok pooled) = IsReported OutOfMemory
  caused (Err error) = IsReported error.cause.kind

-- the rehearsal and what it takes
pub cost : {E : Type 0} (settings : Settings) (setup : Setup) (old new : State) (first last : Ledgers) (output left : List ℕ) (count : ℕ) (ended : Result PooledConnection EstablishError) (r : Result Rehearsal E)
    → setup ≡ setup_of settings → CostsAsLed ended setup old new first last → Replayed settings.replies output left old new
    → IfOk r (ReportsOutcome output count ended) → IfOk r (Replays settings ended old new) → IfOk r (CostsAsReported settings first last)
cost settings setup old new first last output left count ended (Ok x) same costs p tells is =
    let over = (subst (λ a. CostsAsLed ended a old new first last) same costs).over settings.replies p.given p.unfailed in
    record {
      rehearsal_is = is.rehearses.rehearsal_is;
      takes = subst (λ b. CostsLedgers settings b first last) (sym is.rehearses.logs_in_is) (takes_over settings first last ended over (told_cause output count ended x tells));
    }
cost settings setup old new first last output left count ended (Err error) same costs p tells is = tt

-- the rehearsal alone
pub alone : {E : Type 0} (settings : Settings) (first last : Ledgers) (r : Result Rehearsal E) → IfOk r (CostsAsReported settings first last) → IfOk r (IsRehearsal settings)
alone settings first last (Ok x) t = t.rehearsal_is
alone settings first last (Err e) t = tt

-- ---- a login alone, before which no key was accepted

derived_alone : (key : SaltedKey) (first last : Ledgers) → entries_of first.cache ≡ [] → Derives key first last → last.steps ≡ first.steps + key.count
derived_alone key first last none (inl had) = absurd (nothing_in (key, had.0.0) (subst (λ entries. Contains entries (key, had.0.0)) none had.0.1))
derived_alone key first last none (inr made) = made.1.steps

steps_alone : (accepted : Bool) (key : Option SaltedKey) (first last : Ledgers) → entries_of first.cache ≡ [] → CostsBy accepted key first last → last.steps ≡ first.steps + rounds_alone key
steps_alone true None first last none t = t.counts.steps
steps_alone false None first last none t = t.counts.steps
steps_alone true (Some key) first last none t = derived_alone key first last none t.derived
steps_alone false (Some key) first last none t = derived_alone key first last none t.derived

counted : (settings : Settings) (accepted : Bool) (first last : Ledgers) → entries_of first.cache ≡ [] → CostsLedgers settings accepted first last → CountsKey settings (steps_of first.steps last.steps)
counted settings accepted first last none t = record { key = t.key; key_is = t.key_is; steps_are = steps_alone accepted t.key first last none t.taken }

-- over the reply bytes an establishment that is told derived the key that they lead to
pub counted_over : (settings : Settings) (first last : Ledgers) (ended : Result PooledConnection EstablishError) (written : List ℕ) (count : ℕ) (x : Rehearsal)
    → entries_of first.cache ≡ [] → CostsOver ended (setup_of settings) settings.replies first last → ReportsOutcome written count ended x → CountsKey settings (steps_of first.steps last.steps)
counted_over settings first last ended written count x none over tells =
    counted settings (has_logged_in ended) first last none (takes_over settings first last ended over (told_cause written count ended x tells))

pub reports_alone : {E : Type 0} (settings : Settings) (first last : Ledgers) (r : Result Rehearsal E) → entries_of first.cache ≡ [] → IfOk r (CostsAsReported settings first last)
    → IfOk r (λ x. ReportsOne settings (steps_of first.steps last.steps) x.status x.report.items)
reports_alone settings first last (Ok x) none t = record {
  report = t.rehearsal_is.report;
  status_is = t.rehearsal_is.status_is;
  counted = counted settings (logs_in t.rehearsal_is.report.outcome) first last none t.takes;
}
reports_alone settings first last (Err e) none t = tt
