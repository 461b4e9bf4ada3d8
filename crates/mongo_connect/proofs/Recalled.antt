-- What is told of an establishment over a link, from what was recorded of it; and that it is a rehearsal on the bytes that the link
-- told.
use Rattle.std.proofs.Common.{◌≡◌, ℕ, ℤ, ◌-◌, ◌∙◌, ap, subst, arith, refl, inl, inr, Some, Result, Ok, Err, List, [], length, IfOk, OnErr}
use Rattle.std.specs.Io.KnownBytes.{append_known}
use Rattle.mongo_wire.specs.Outside.{State, Unfailed}
use Rattle.mongo_command.specs.Exchange.{point}
use Rattle.mongo_scram.specs.declared.cache.SaltedCache.{SaltedCache}
use Rattle.mongo_scram.specs.Cache.{entries_of}
use Rattle.mongo_scram.specs.Costs.{ledgers, checkpoint}
use Rattle.mongo_establish.specs.declared.establisher.PooledConnection.{PooledConnection}
use Rattle.mongo_establish.specs.declared.establisher.EstablishError.{EstablishError}
use Rattle.mongo_establish.specs.Setup.{Setup, start_of}
use Rattle.mongo_establish.specs.Ending.{EndsEstablishment}
use Rattle.mongo_establish.specs.KeyCosts.{CostsOver}
use Rattle.mongo_establish.proofs.Establishment.{stopped_refusal}
use Rattle.mongo_settings.specs.declared.settings.Settings.{Settings}
use Rattle.mongo_settings.specs.declared.rehearsal.Rehearsal.{Rehearsal}
use Rattle.mongo_settings.specs.Outcome.{setup_of}
use Rattle.mongo_settings.specs.Task.{StepCounts}
use Rattle.mongo_settings.specs.Reporting.{IsReported, ReportsOutcome}
use Rattle.mongo_settings.proofs.Rehearsing.{Replayed, rehearsed}
use Rattle.mongo_settings.proofs.RehearsalCosts.{counted_over}
use Rattle.mongo_connect.specs.Connecting.{Attempted, IsConnectionReported, IsUnreported, TellsBytes, ReportsConnection}
use Rattle.mongo_connect.specs.Recording.{IsTakenCount}
use Rattle.mongo_connect.specs.Settings.{with_replies}

-- ---- what was recorded

attempted : (settings : Settings) (steps : StepCounts) (setup : Setup) (origin start new : State) (after : ℤ) (held held_after : SaltedCache) (result : Result PooledConnection EstablishError)
    → start ≡ origin → setup ≡ setup_of settings → entries_of held ≡ [] → EndsEstablishment [] setup (start_of setup start (ledgers steps.before held)) (checkpoint (point new after) (ledgers steps.after held_after)) result → Attempted settings steps result origin new
attempted settings steps setup origin start new after held held_after result begun same none ended =
    let first = ledgers steps.before held in
    let last = ledgers steps.after held_after in
    record {
      after = after;
      held = held;
      none_held = none;
      held_after = held_after;
      ended = subst (λ s. EndsEstablishment [] (setup_of settings) (start_of (setup_of settings) s first) (checkpoint (point new after) last) result) begun (subst (λ a. EndsEstablishment [] a (start_of a start first) (checkpoint (point new after) last) result) same ended);
    }

-- an establishment that began where its recording did is told by what that holds
pub told_over : {E : Type 0} {setup : Setup} (settings : Settings) (steps : StepCounts) (origin start new : State) (after : ℤ) (held held_after : SaltedCache) (result : Result PooledConnection EstablishError) (written : List ℕ) (taken : ℕ) (r : Result Rehearsal E)
    → start ≡ origin → setup ≡ setup_of settings → entries_of held ≡ [] → EndsEstablishment [] setup (start_of setup start (ledgers steps.before held)) (checkpoint (point new after) (ledgers steps.after held_after)) result
    → new.written ≡ append_known origin.written written → IsTakenCount origin.left new.left taken → IfOk r (ReportsOutcome written taken result) → IfOk r (IsConnectionReported settings steps origin new)
told_over {setup = setup} settings steps origin start new after held held_after result written taken (Ok x) begun same none ended appended counted tells = record {
  ended = result;
  attempted = attempted settings steps setup origin start new after held held_after result begun same none ended;
  written = written;
  appended = appended;
  taken = taken;
  counted = counted;
  tells = tells;
}
told_over settings steps origin start new after held held_after result written taken (Err e) begun same none ended appended counted tells = tt

pub untold_over : {A E : Type 0} {setup : Setup} (settings : Settings) (steps : StepCounts) (origin start new : State) (after : ℤ) (held held_after : SaltedCache) (result : Result PooledConnection EstablishError) (r : Result A E)
    → start ≡ origin → setup ≡ setup_of settings → entries_of held ≡ [] → EndsEstablishment [] setup (start_of setup start (ledgers steps.before held)) (checkpoint (point new after) (ledgers steps.after held_after)) result → OnErr r (IsUnreported settings steps origin new)
untold_over settings steps origin start new after held held_after result (Ok x) begun same none ended = tt
untold_over {setup = setup} settings steps origin start new after held held_after result (Err e) begun same none ended = inr (result, attempted settings steps setup origin start new after held held_after result begun same none ended)

-- ---- over told bytes

same_setup : (settings : Settings) (bytes : List ℕ) → setup_of settings ≡ setup_of (with_replies settings bytes)
unfolding setup_of
same_setup settings bytes = refl

-- bytes are left
left_over : (settings : Settings) (bytes : List ℕ) (steps : StepCounts) (old new : State) (ended : Result PooledConnection EstablishError) (written : List ℕ) (taken : ℕ) (x : Rehearsal)
    → Attempted settings steps ended old new → TellsBytes old bytes → Unfailed old new → ReportsOutcome written taken ended x → (left : List ℕ) × (new.left ≡ Some left)
left_over settings bytes steps old new (Ok pooled) written taken x a t f tells =
    let rest = a.ended.established.scripted.taken bytes t.left in
    (rest.rest, rest.left_is)
left_over settings bytes steps old new (Err refusal) written taken x a t f tells =
    elim (stopped_refusal refusal.handshake_phase (setup_of settings) refusal.cause.kind old new a.after _ _ bytes a.ended.refused t.left f) [
      | inl memory ↦ absurd (subst IsReported memory tells.reported)
      | inr r ↦ (r.refusal.unread, r.left_by.left)
    ]

rehearses : (settings : Settings) (bytes : List ℕ) (steps : StepCounts) (old new : State) (x : Rehearsal) → IsConnectionReported settings steps old new x → TellsBytes old bytes → Unfailed old new → ReportsConnection settings bytes steps old new x
rehearses settings bytes steps old new x told t f =
    let (left, left_is) = left_over settings bytes steps old new told.ended told.written told.taken x told.attempted t f told.tells in
    let fits = t.fits in
    let counted = told.counted bytes left t.left left_is in
    let count : told.taken ≡ length bytes - length left = omega arith in
    let replayed : Replayed bytes told.written left old new = record {
      front = t.before;
      before = t.written;
      given = t.left;
      written_is = told.appended ∙ ap (λ o. append_known o told.written) t.written;
      left_is = left_is;
      unfailed = f;
    } in
    let replays = rehearsed _ {E = ℕ} (with_replies settings bytes) (setup_of settings) old new told.attempted.after _ _ told.written left told.taken told.ended (Ok x) (same_setup settings bytes) told.attempted.ended.established told.attempted.ended.refused replayed count told.tells in
    let first = ledgers steps.before told.attempted.held in
    let last = ledgers steps.after told.attempted.held_after in
    let over = subst (λ setup. CostsOver told.ended setup bytes first last) (same_setup settings bytes) (told.attempted.ended.led.over bytes t.left f) in
    let counts = counted_over (with_replies settings bytes) first last told.ended told.written told.taken x told.attempted.none_held over told.tells in
    record {
      rehearsal_is = replays.rehearses.rehearsal_is;
      left_as = replays.left_as;
      counted = record { key = counts.key; key_is = counts.key_is; steps_are = counts.steps_are };
    }

pub rehearsed_over : {E : Type 0} (settings : Settings) (steps : StepCounts) (old new : State) (r : Result Rehearsal E) → IfOk r (IsConnectionReported settings steps old new)
    → (bytes : List ℕ) → TellsBytes old bytes → Unfailed old new → IfOk r (ReportsConnection settings bytes steps old new)
rehearsed_over settings steps old new (Ok x) told bytes t f = rehearses settings bytes steps old new x told t f
rehearsed_over settings steps old new (Err e) told bytes t f = tt
