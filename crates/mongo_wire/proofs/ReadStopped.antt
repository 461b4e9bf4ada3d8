-- What a read that was refused has consumed.
use Rattle.std.proofs.Common.{◌≡◌, ℕ, ◌+◌, ◌-◌, ◌≤◌, Option, None, Some, List, [], ◌++◌, length, take, drop, refl, sym, ap, ◌∙◌, arith, length-append}
use Rattle.std.proofs.Math.Seq.{take-add}
use Rattle.std.proofs.lemmas.List.{take-take, drop-drop, drop-take, length-take-le, length-drop}
use Rattle.std.proofs.KnownBytes.{Consumes-trans}
use Rattle.std.specs.Io.KnownBytes.{Consumes}
use Rattle.mongo_wire.specs.Outside.{State, ReadsOn, Unstopped, FailsToRead, MeetsEnd, ReadStops, ConsumesAtMost, ConsumesFewer, RanOut, risen}
use Rattle.mongo_wire.specs.declared.error.ErrorKind.{ErrorKind}
use Rattle.mongo_wire.specs.declared.error.ErrorKind.TheVariants.{InvalidArgument, InvalidResponse, Command, Authentication, IncompatibleServer, Write, InsertMany, ReadFault, WriteFault, EndOfInput, Callback, PasswordNotAscii, OutOfMemory}

-- how many items stand between two places
pub length_between : (before at : ℕ) (xs : List ℕ) → before ≤ at → at ≤ length xs → length (take (at - before) (drop before xs)) ≡ at - before
length_between before at xs start within = length-take-le (at - before) (drop before xs) (omega (arith, length-drop before xs, start, within))

-- a refused read by its kind, of which there are three
pub stop_cases : (P : ErrorKind → Type 0) (kind : ErrorKind) (old new : State) (wanted : ℕ)
    → ReadStops kind old new wanted
    → (kind ≡ ReadFault → ReadStops ReadFault old new wanted → P ReadFault)
    → (kind ≡ EndOfInput → ReadStops EndOfInput old new wanted → P EndOfInput)
    → (kind ≡ OutOfMemory → ReadStops OutOfMemory old new wanted → P OutOfMemory)
    → P kind
stop_cases P ReadFault _ _ _ s fault end memory = fault refl s
stop_cases P EndOfInput _ _ _ s fault end memory = end refl s
stop_cases P OutOfMemory _ _ _ s fault end memory = memory refl s
stop_cases P (InvalidArgument _) _ _ _ s fault end memory = absurd s
stop_cases P (InvalidResponse _) _ _ _ s fault end memory = absurd s
stop_cases P (Command _) _ _ _ s fault end memory = absurd s
stop_cases P (Authentication _) _ _ _ s fault end memory = absurd s
stop_cases P IncompatibleServer _ _ _ s fault end memory = absurd s
stop_cases P (Write _) _ _ _ s fault end memory = absurd s
stop_cases P (InsertMany _) _ _ _ s fault end memory = absurd s
stop_cases P WriteFault _ _ _ s fault end memory = absurd s
stop_cases P (Callback _) _ _ _ s fault end memory = absurd s
stop_cases P PasswordNotAscii _ _ _ s fault end memory = absurd s

-- ---- counts, where an earlier part was read without a stop

pub unstopped_still : (state : State) → Unstopped state state
unstopped_still state = record { reads = refl; ends = refl }

pub unstopped_on : (old mid new : State) → Unstopped old mid → Unstopped mid new → Unstopped old new
unstopped_on old mid new p q = record { reads = q.reads ∙ p.reads; ends = q.ends ∙ p.ends }

pub fails_after : (old mid new : State) → Unstopped old mid → FailsToRead mid new → FailsToRead old new
fails_after old mid new p q = record { reads = q.reads ∙ ap risen p.reads; ends = q.ends ∙ p.ends }

pub ends_after : (old mid new : State) → Unstopped old mid → MeetsEnd mid new → MeetsEnd old new
ends_after old mid new p q = record { reads = q.reads ∙ p.reads; ends = q.ends ∙ ap risen p.ends }

-- ---- what reading keeps

-- no read at all
pub reads_still : (state : State) → ReadsOn state state
reads_still state = record { tells = refl; faults_stay = omega arith; ends_stay = omega arith; unwritten = record { written = refl; flushed = refl; writes = refl } }

-- two reads one after another
pub reads_on : (old mid new : State) → ReadsOn old mid → ReadsOn mid new → ReadsOn old new
reads_on old mid new p q = record {
  tells = q.tells ∙ p.tells;
  faults_stay = omega (arith, p.faults_stay, q.faults_stay);
  ends_stay = omega (arith, p.ends_stay, q.ends_stay);
  unwritten = record { written = q.unwritten.written ∙ p.unwritten.written; flushed = q.unwritten.flushed ∙ p.unwritten.flushed; writes = q.unwritten.writes ∙ p.unwritten.writes };
}

-- a later part was refused, of no more than was wanted in all
pub stops_after : (kind : ErrorKind) (old mid new : State) (taken : List ℕ) (part wanted : ℕ)
    → Consumes old.left mid.left taken → Unstopped old mid → length taken + part ≤ wanted → ReadStops kind mid new part → ReadStops kind old new wanted
stops_after kind old mid new taken part wanted p still within s =
    stop_cases (λ k. ReadStops k old new wanted) kind mid new part s
    (λ _ f. (fails_after old mid new still f.0, fewer f.1)) (λ _ e. (ends_after old mid new still e.0, ran_out old.left mid.left new.left taken part wanted p within e.1))
    (λ _ m. (unstopped_on old mid new still m.0, consumes m.1))
  where
    consumes : ConsumesAtMost mid.left new.left part → ConsumesAtMost old.left new.left wanted
    consumes c = (taken ++ c.0, omega (arith, c.1, length-append taken c.0, within), Consumes-trans old.left mid.left new.left taken c.0 p c.2)

    fewer : ConsumesFewer mid.left new.left part → ConsumesFewer old.left new.left wanted
    fewer c = (taken ++ c.0, omega (arith, c.1, length-append taken c.0, within), Consumes-trans old.left mid.left new.left taken c.0 p c.2)

    ran_out : (old mid new : Option (List ℕ)) (taken : List ℕ) (part wanted : ℕ) → Consumes old mid taken → length taken + part ≤ wanted → RanOut mid new part → RanOut old new wanted
    ran_out None mid new taken part wanted p within r = tt
    ran_out (Some xs) None new taken part wanted p within r = absurd p
    ran_out (Some xs) (Some ys) new taken part wanted p within r = (omega (arith, r.0, ap length p, length-append taken ys, within), r.1)

-- the front of a front
pub same_shorter_front : (m n : ℕ) (xs ys : List ℕ) → m ≤ n → take n xs ≡ take n ys → take m xs ≡ take m ys
same_shorter_front m n xs ys within same = front xs ∙ ap (take m) same ∙ sym (front ys)
  where
    front : (zs : List ℕ) → take m zs ≡ take m (take n zs)
    front zs = sym (take-take m n zs within)

-- what came behind a front, and the next part behind it
pub next_part : (before at end : ℕ) (xs ys : List ℕ) → before ≤ at → at ≤ end → take at xs ≡ take at ys → take (at - before) (drop before xs) ++ take (end - at) (drop at ys) ≡ take (end - before) (drop before ys)
next_part before at end xs ys within after same =
    let first : take (at - before) (drop before xs) ≡ take (at - before) (drop before ys) = cut xs ∙ ap (drop before) same ∙ sym (cut ys) in
    let place : drop at ys ≡ drop (at - before) (drop before ys) = sym (drop-drop (at - before) before ys ∙ ap (λ n. drop n ys) (omega arith)) in
    let count : (at - before) + (end - at) ≡ end - before = omega arith in
    ap (λ l. l ++ take (end - at) (drop at ys)) first ∙ ap (λ l. take (at - before) (drop before ys) ++ take (end - at) l) place
    ∙ sym (take-add (at - before) (end - at) (drop before ys)) ∙ ap (λ n. take n (drop before ys)) count
  where
    cut : (zs : List ℕ) → take (at - before) (drop before zs) ≡ drop before (take at zs)
    cut zs = sym (drop-take before (at - before) zs) ∙ ap (λ n. drop before (take n zs)) (omega arith)

-- what came is what there was without what is left
pub came_before : (old new : Option (List ℕ)) (taken had left : List ℕ) → Consumes old new taken → old ≡ Some had → new ≡ Some left → length taken ≡ length had - length left
came_before old new taken had left p had_is left_is =
    let spelled : had ≡ taken ++ left = rw (had_is, left_is) at p in
    omega (arith, ap length spelled, length-append taken left)

-- the same where a later part was refused
pub came_then : (kind : ErrorKind) (old mid new : State) (taken : List ℕ) (part : ℕ) (had left : List ℕ)
    → Consumes old.left mid.left taken → old.left ≡ Some had → new.left ≡ Some left → ReadStops kind mid new part → length taken ≤ length had - length left
came_then kind old mid new taken part had left p had_is left_is s =
    stop_cases (λ _. length taken ≤ length had - length left) kind mid new part s
    (λ _ f. consumed f.1.0 f.1.2) (λ _ e. ended mid.left p e.1) (λ _ m. consumed m.1.0 m.1.2)
  where
    consumed : (more : List ℕ) → Consumes mid.left new.left more → length taken ≤ length had - length left
    consumed more q = omega (arith, came_before old.left new.left (taken ++ more) had left (Consumes-trans old.left mid.left new.left taken more p q) had_is left_is, length-append taken more)

    ended : (there : Option (List ℕ)) → Consumes old.left there taken → RanOut there new.left part → length taken ≤ length had - length left
    ended None q r = absurd (rw had_is at q)
    ended (Some bytes) q r =
        let spelled : had ≡ taken ++ bytes = rw had_is at q in
        let empty : left ≡ [] = none left (sym left_is ∙ r.1) in
        omega (arith, ap length spelled, length-append taken bytes, ap length empty)
      where
        none : (rest : List ℕ) → Some rest ≡ Some [] → rest ≡ []
        none rest e = cc
