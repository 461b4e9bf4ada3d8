-- What was held of an input and what is left of it.
use Rattle.std.proofs.Common.{◌≡◌, ℕ, ◌+◌, ◌<◌, ◌≤◌, Option, None, Some, Result, Ok, Err, IfOk, OnErr, List, ◌++◌, length, take, drop, refl, sym, ap, ◌∙◌, subst, append-nil, arith, length-append}
use Rattle.std.proofs.Math.Seq.{take-append_seam, drop-append_seam}
use Rattle.std.proofs.lemmas.Bool.{lt-leb}
use Rattle.std.proofs.lemmas.List.{take_all, drop_all}
use Rattle.std.specs.Result.{IsErr}
use Rattle.std.specs.Io.KnownBytes.{Consumes, IsAtEnd}
use Rattle.std.proofs.KnownBytes.{Consumes-trans}
use Rattle.mongo_settings.specs.declared.task.Task.{Task}
use Rattle.mongo_settings.specs.declared.task.Task.TheVariants.{Rehearse, Batch}
use Rattle.mongo_settings.specs.Settings.{maximum_settings_length, value_judged, judged}
use Rattle.mongo_settings.specs.Logins.{logins_judged}
use Rattle.mongo_settings.specs.Task as task
use Rattle.mongo_login.specs.declared.job.Job.{Job}
use Rattle.mongo_login.specs.declared.job.Job.TheVariants.{Login, Proxy}
use Rattle.mongo_login.specs.Job.{judged_as}
use Rattle.mongo_login.specs.Proxy.{proxy_judged}
use Rattle.mongo_login.specs.Input.{ReadsInput}
use Rattle.mongo_settings.specs.declared.settings.SettingsError.TheVariants.{BadSettings}

-- the bytes held of a told input are its front
held_front : (old left : Option (List ℕ)) (held input : List ℕ) → old ≡ Some input → Consumes old left held → (rest : List ℕ) × (left ≡ Some rest) × (input ≡ held ++ rest)
held_front old None held input told consumed = absurd (subst (λ o. Consumes o None held) told consumed)
held_front old (Some rest) held input told consumed = (rest, refl, subst (λ o. Consumes o (Some rest) held) told consumed)

-- a front is as many bytes as it has
cut : (n : ℕ) (held rest input : List ℕ) → input ≡ held ++ rest → length held ≡ n → (held ≡ take n input) × (rest ≡ drop n input)
cut n held rest input joined is = (
  sym (ap (λ m. take m input) (sym is) ∙ ap (take (length held)) joined ∙ take-append_seam held rest),
  sym (ap (λ m. drop m input) (sym is) ∙ ap (drop (length held)) joined ∙ drop-append_seam held rest),
)

-- where the source has ended, all of its input is held
pub reads_whole : (old left : Option (List ℕ)) (held input : List ℕ) → old ≡ Some input → Consumes old left held → IsAtEnd left → length held ≤ maximum_settings_length → ReadsInput input held left
reads_whole old left held input told consumed end short =
    let (rest, is, joined) = held_front old left held input told consumed in
    let none = subst IsAtEnd is end in
    let all = joined ∙ ap (λ l. held ++ l) none ∙ append-nil held in
    let within : length input ≤ maximum_settings_length + 1 = omega (arith, ap length all) in
    (sym (take_all (maximum_settings_length + 1) input within ∙ all), is ∙ ap Some (none ∙ sym (drop_all (maximum_settings_length + 1) input within)))

-- past the greatest length its front is held
pub reads_front : (old left : Option (List ℕ)) (held input : List ℕ) → old ≡ Some input → Consumes old left held → length held ≡ maximum_settings_length + 1 → ReadsInput input held left
reads_front old left held input told consumed past =
    let (rest, is, joined) = held_front old left held input told consumed in
    let parts = cut (maximum_settings_length + 1) held rest input joined past in
    (parts.0, is ∙ ap Some parts.1)

-- ---- at a read

-- one that gives nothing leaves what is held the bytes that were given
pub nothing_more : (old mid new : Option (List ℕ)) (held buf : List ℕ) (count : ℕ) → Consumes old mid held → Consumes mid new (take count buf) → count ≡ 0 → Consumes old new held
nothing_more old mid new held buf count front given none =
    let e : held ++ take count buf ≡ held = ap (λ n. held ++ take n buf) none ∙ append-nil held in
    subst (Consumes old new) e (Consumes-trans old mid new held (take count buf) front given)

-- a refusal says nothing of a value, and all that it says of an error
pub no_ok : {T E : Type 0} (P : T → Type 0) (r : Result T E) → IsErr r → IfOk r P
no_ok P (Ok x) refused = absurd cc
no_ok P (Err e) refused = tt

pub of_error : {T E : Type 0} (P : Type 0) (r : Result T E) → P → OnErr r P
of_error P (Ok x) p = tt
of_error P (Err e) p = p

-- ---- judgements

-- a text past the greatest length asks for nothing
value_judged-past_maximum : (text : List ℕ) → maximum_settings_length < length text → value_judged text ≡ Err BadSettings
unfolding value_judged
value_judged-past_maximum text past = rw (lt-leb (length text) maximum_settings_length past) refl

task_judged-past_maximum : (one : Task) (text : List ℕ) → maximum_settings_length < length text → task.judged_as one text ≡ Err BadSettings
unfolding task.judged_as judged logins_judged
task_judged-past_maximum Rehearse text past = rw (value_judged-past_maximum text past) refl
task_judged-past_maximum Batch text past = rw (value_judged-past_maximum text past) refl

pub judged-past_maximum : (job : Job) (text : List ℕ) → maximum_settings_length < length text → judged_as job text ≡ Err BadSettings
unfolding judged_as proxy_judged
judged-past_maximum (Login one) text past = rw (task_judged-past_maximum one text past) refl
judged-past_maximum Proxy text past = rw (value_judged-past_maximum text past) refl

-- so its front past the greatest length is judged alike
pub judged-front : (job : Job) (old left : Option (List ℕ)) (held input : List ℕ) → old ≡ Some input → Consumes old left held → length held ≡ maximum_settings_length + 1 → judged_as job held ≡ judged_as job input
judged-front job old left held input told consumed past =
    let (rest, is, joined) = held_front old left held input told consumed in
    let longer : maximum_settings_length < length input = omega (arith, ap length joined, length-append held rest) in
    let held_longer : maximum_settings_length < length held = omega arith in
    judged-past_maximum job held held_longer ∙ sym (judged-past_maximum job input longer)
