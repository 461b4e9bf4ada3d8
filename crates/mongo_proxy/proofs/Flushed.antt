-- What lasts from one state of a link to a later one, and what is flushed.
use Rattle.std.proofs.Common.{◌≡◌, ℕ, ◌+◌, ◌≤◌, Option, None, Some, IfSome, List, [], ◌++◌, length, inl, inr, refl, ap, ◌∙◌, arith, length-append}
use Rattle.std.proofs.KnownBytes.{Appends-nil, Appends-trans, Consumes-nil, Consumes-trans}
use Rattle.std.specs.Io.KnownBytes.{Appends}
use Rattle.mongo_wire.specs.Outside.{State, ReadsOn, WritesOn, Unstopped, IsFlushed}
use Rattle.mongo_proxy.specs.Sides.{HasFlushed, Lasts, Carries}

pub lasts_all : (old : State) → Lasts old old
lasts_all old = record { reads = refl; ends = refl; writes = refl; flushed = omega arith }

pub lasts_on : (old mid new : State) → Lasts old mid → Lasts mid new → Lasts old new
lasts_on old mid new p q = record { reads = q.reads ∙ p.reads; ends = q.ends ∙ p.ends; writes = q.writes ∙ p.writes; flushed = omega (arith, p.flushed, q.flushed) }

pub lasts_read : (old new : State) → Unstopped old new → ReadsOn old new → Lasts old new
lasts_read old new still on = record { reads = still.reads; ends = still.ends; writes = on.unwritten.writes; flushed = omega (arith, on.unwritten.flushed) }

pub lasts_write : (old new : State) → new.write_faults ≡ old.write_faults → WritesOn old new → Lasts old new
lasts_write old new still on = record { reads = on.unread.reads; ends = on.unread.ends; writes = still; flushed = on.flushed_stays }

-- ---- what was flushed

all_flushed : (before after : Option (List ℕ)) (flushed : ℕ) (sent : List ℕ) → Appends before after sent → IfSome after (λ bytes. flushed ≡ length bytes) → IfSome before (λ bytes. length bytes + length sent ≤ flushed)
all_flushed None after flushed sent p f = tt
all_flushed (Some bytes) None flushed sent p f = absurd p
all_flushed (Some bytes) (Some others) flushed sent p f = omega (arith, f, ap length p, length-append bytes sent)

pub sent_flushed : (old new : State) (sent : List ℕ) → Appends old.written new.written sent → IsFlushed new → HasFlushed old new sent
sent_flushed old new sent appended flushed = inr (all_flushed old.written new.written new.flushed sent appended flushed)

stays : (before : Option (List ℕ)) (flushed later : ℕ) (xs ys : List ℕ) → IfSome before (λ bytes. length bytes + length xs ≤ flushed) → ys ≡ [] → flushed ≤ later → IfSome before (λ bytes. length bytes + length (xs ++ ys) ≤ later)
stays None flushed later xs ys h none more = tt
stays (Some bytes) flushed later xs ys h none more = omega (arith, h, more, length-append xs ys, ap length none)

grows : (before after : Option (List ℕ)) (later : ℕ) (xs ys : List ℕ) → Appends before after xs → IfSome after (λ bytes. length bytes + length ys ≤ later) → IfSome before (λ bytes. length bytes + length (xs ++ ys) ≤ later)
grows None after later xs ys p h = tt
grows (Some bytes) None later xs ys p h = absurd p
grows (Some bytes) (Some others) later xs ys p h = omega (arith, h, ap length p, length-append bytes xs, length-append xs ys)

flushed_on : (old mid new : State) (xs ys : List ℕ) → Appends old.written mid.written xs → HasFlushed old mid xs → mid.flushed ≤ new.flushed → HasFlushed mid new ys → HasFlushed old new (xs ++ ys)
flushed_on old mid new xs ys appended (inl none) more (inl nothing) = inl (ap (λ l. l ++ ys) none ∙ nothing)
flushed_on old mid new xs ys appended (inr h) more (inl nothing) = inr (stays old.written mid.flushed new.flushed xs ys h nothing more)
flushed_on old mid new xs ys appended h more (inr k) = inr (grows old.written mid.written new.flushed xs ys appended k)

-- ---- what passed over a link

pub nothing_carried : (old : State) → Carries old old [] []
nothing_carried old = record { consumed = Consumes-nil old.left; appended = Appends-nil old.written; flushed = inl refl; lasts = lasts_all old }

pub carried_on : (old mid new : State) (taken sent more other : List ℕ) → Carries old mid taken sent → Carries mid new more other → Carries old new (taken ++ more) (sent ++ other)
carried_on old mid new taken sent more other p q = record {
  consumed = Consumes-trans old.left mid.left new.left taken more p.consumed q.consumed;
  appended = Appends-trans old.written mid.written new.written sent other p.appended q.appended;
  flushed = flushed_on old mid new sent other p.appended p.flushed q.lasts.flushed q.flushed;
  lasts = lasts_on old mid new p.lasts q.lasts;
}
