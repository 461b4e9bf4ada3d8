-- What lasts from one state of a link to a later one.
use Rattle.std.proofs.Common.{◌≡◌, ℕ, ◌+◌, ◌≤◌, Option, None, Some, IfSome, List, [], ◌++◌, length, inl, inr, refl, ap, ◌∙◌, subst, arith, length-append}
use Rattle.std.specs.Io.KnownBytes.{Appends}
use Rattle.mongo_wire.specs.Outside.{State, ReadsOn, WritesOn, Unstopped, IsFlushed, risen}
use Rattle.mongo_wire.proofs.ReadStopped.{unstopped_on, fails_after, ends_after}
use Rattle.mongo_service.specs.Cut.{CountsEnd, CountsFault}
use Rattle.mongo_service.specs.declared.fault.ServeFault.{ServeFault}
use Rattle.mongo_service.specs.declared.fault.ServeFault.TheVariants.{ReadFault, WriteFault, CutFrame}
use Rattle.mongo_service.specs.Sent.{HasFlushed}
use Rattle.mongo_service.specs.Served.{Lasts}

pub lasts_all : (old : State) → Lasts old old
lasts_all old = record { reads = refl; ends = refl; writes = refl; flushed = omega arith }

-- a read leaves what was flushed, however it ends
pub flushed_read : (old new : State) → ReadsOn old new → old.flushed ≤ new.flushed
flushed_read old new on = omega (arith, on.unwritten.flushed)

pub flushed_after : (before now new : State) → ReadsOn before now → ReadsOn now new → before.flushed ≤ new.flushed
flushed_after before now new p q = omega (arith, p.unwritten.flushed, q.unwritten.flushed)

pub lasts_on : (old mid new : State) → Lasts old mid → Lasts mid new → Lasts old new
lasts_on old mid new p q = record { reads = q.reads ∙ p.reads; ends = q.ends ∙ p.ends; writes = q.writes ∙ p.writes; flushed = omega (arith, p.flushed, q.flushed) }

pub lasts_read : (old new : State) → Unstopped old new → ReadsOn old new → Lasts old new
lasts_read old new still on = record { reads = still.reads; ends = still.ends; writes = on.unwritten.writes; flushed = flushed_read old new on }

-- two reads, one after another
pub lasts_after : (before now new : State) → Unstopped before new → ReadsOn before now → ReadsOn now new → Lasts before new
lasts_after before now new still p q = record { reads = still.reads; ends = still.ends; writes = q.unwritten.writes ∙ p.unwritten.writes; flushed = flushed_after before now new p q }

pub lasts_write : (old new : State) → new.write_faults ≡ old.write_faults → WritesOn old new → Lasts old new
lasts_write old new still on = record { reads = on.unread.reads; ends = on.unread.ends; writes = still; flushed = on.flushed_stays }

-- ---- what was counted

pub lasts_unstopped : (old new : State) → Lasts old new → Unstopped old new
lasts_unstopped old new lasts = record { reads = lasts.reads; ends = lasts.ends }

pub end_after : (old mid new : State) → Lasts old mid → CountsEnd mid new → CountsEnd old new
end_after old mid new lasts c = (ends_after old mid new (lasts_unstopped old mid lasts) c.0, c.1 ∙ lasts.writes)

-- nothing was counted before
pub counted_after : (fault : ServeFault) (old mid new : State) → Lasts old mid → CountsFault fault mid new → CountsFault fault old new
counted_after ReadFault old mid new lasts c = (fails_after old mid new (lasts_unstopped old mid lasts) c.0, c.1 ∙ lasts.writes)
counted_after CutFrame old mid new lasts c = end_after old mid new lasts c
counted_after WriteFault old mid new lasts c = (unstopped_on old mid new (lasts_unstopped old mid lasts) c.0, c.1 ∙ ap risen lasts.writes)
counted_after fault old mid new lasts c = (unstopped_on old mid new (lasts_unstopped old mid lasts) c.0, c.1 ∙ lasts.writes)

-- ---- what was flushed

all_flushed : (before after : Option (List ℕ)) (flushed : ℕ) (sent : List ℕ) → Appends before after sent → IfSome after (λ bytes. flushed ≡ length bytes) → IfSome before (λ bytes. length bytes + length sent ≤ flushed)
all_flushed None after flushed sent p f = tt
all_flushed (Some bytes) None flushed sent p f = absurd p
all_flushed (Some bytes) (Some others) flushed sent p f = omega (arith, f, ap length p, length-append bytes sent)

pub sent_flushed : (old new : State) (sent : List ℕ) → Appends old.written new.written sent → IsFlushed new → HasFlushed old new sent
sent_flushed old new sent appended flushed = inr (all_flushed old.written new.written new.flushed sent appended flushed)

stays : (before : Option (List ℕ)) (flushed later : ℕ) (xs ys : List ℕ) → IfSome before (λ bytes. length bytes + length xs ≤ flushed) → ys ≡ [] → flushed ≤ later → IfSome before (λ bytes. length bytes + length (xs ++ ys) ≤ later)
stays None flushed later xs ys h none more = tt
stays (Some bytes) flushed later xs ys h none more = omega (arith, h, more, length-append xs ys, ap length none)

grows : (before after : Option (List ℕ)) (later : ℕ) (xs ys : List ℕ) → Appends before after xs → IfSome after (λ bytes. length bytes + length ys ≤ later) → IfSome before (λ bytes. length bytes + length (xs ++ ys) ≤ later)
grows None after later xs ys p h = tt
grows (Some bytes) None later xs ys p h = absurd p
grows (Some bytes) (Some others) later xs ys p h = omega (arith, h, ap length p, length-append bytes xs, length-append xs ys)

pub flushed_on : (old mid new : State) (xs ys : List ℕ) → Appends old.written mid.written xs → HasFlushed old mid xs → mid.flushed ≤ new.flushed → HasFlushed mid new ys → HasFlushed old new (xs ++ ys)
flushed_on old mid new xs ys appended (inl none) more (inl nothing) = inl (ap (λ l. l ++ ys) none ∙ nothing)
flushed_on old mid new xs ys appended (inr h) more (inl nothing) = inr (stays old.written mid.flushed new.flushed xs ys h nothing more)
flushed_on old mid new xs ys appended h more (inr k) = inr (grows old.written mid.written new.flushed xs ys appended k)

-- what is flushed stays so
pub flushed_still : (old mid new : State) (xs : List ℕ) → HasFlushed old mid xs → mid.flushed ≤ new.flushed → HasFlushed old new xs
flushed_still old mid new xs (inl none) more = inl none
flushed_still old mid new xs (inr h) more = inr (later old.written h)
  where
    later : (before : Option (List ℕ)) → IfSome before (λ bytes. length bytes + length xs ≤ mid.flushed) → IfSome before (λ bytes. length bytes + length xs ≤ new.flushed)
    later None k = tt
    later (Some bytes) k = omega (arith, k, more)

pub flushed_from : (old mid new : State) (sent : List ℕ) → mid.written ≡ old.written → HasFlushed mid new sent → HasFlushed old new sent
flushed_from old mid new sent unwritten (inl none) = inl none
flushed_from old mid new sent unwritten (inr h) = inr (subst (λ w. IfSome w (λ bytes. length bytes + length sent ≤ new.flushed)) unwritten h)
