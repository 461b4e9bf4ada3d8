-- Frames that were passed on, one after another.
use Rattle.std.proofs.Common.{◌≡◌, ℕ, ℤ, ◌+◌, ◌<◌, true, false, List, [], ◌∷◌, ◌++◌, length, refl, sym, ap, ◌∙◌, subst, arith, length-append}
use Rattle.std.proofs.lemmas.List.Concat.{flat_map-append}
use Rattle.std.specs.List.{AllByRecursion}
use Rattle.mongo_wire.specs.Outside.{State}
use Rattle.mongo_proxy.specs.RelayedFrames.{RelayedFrame, Passed, command, reply, commands, replies, Stand, beginning, Follow, IsNext, IsNextOf, IsWithin, taken_of, sent_of}
use Rattle.mongo_proxy.specs.Relays.{ClientEnded, Counts, RelaysCut, RelaysWhole, counted}
use Rattle.mongo_proxy.specs.Sides.{Sides, Carries}
use Rattle.mongo_proxy.specs.Stops.{Stops}
use Rattle.mongo_proxy.specs.Turn.{PassesOne, Relaying}
use Rattle.mongo_proxy.specs.declared.awaited.Awaited.{Awaited}
use Rattle.mongo_proxy.specs.declared.awaited.Awaited.TheVariants as awaited
use Rattle.mongo_proxy.specs.declared.passing.Stop.{Stop}
use Rattle.mongo_proxy.specs.declared.relayed.Relayed.{Relayed}
use Rattle.mongo_proxy.proofs.Drawn.{ids_apart}
use Rattle.mongo_proxy.proofs.Flushed.{nothing_carried, carried_on}

pub commands_append : (xs ys : List RelayedFrame) → commands (xs ++ ys) ≡ commands xs ++ commands ys
commands_append [] ys = refl
commands_append (command c ∷ xs) ys = ap (λ l. c ∷ l) (commands_append xs ys)
commands_append (reply r ∷ xs) ys = commands_append xs ys

pub replies_append : (xs ys : List RelayedFrame) → replies (xs ++ ys) ≡ replies xs ++ replies ys
replies_append [] ys = refl
replies_append (command c ∷ xs) ys = replies_append xs ys
replies_append (reply r ∷ xs) ys = ap (λ l. r ∷ l) (replies_append xs ys)

-- each frame is a command or a reply
pub both_counted : (xs : List RelayedFrame) → length (commands xs) + length (replies xs) ≡ length xs
both_counted [] = refl
both_counted (command c ∷ xs) = omega (arith, both_counted xs)
both_counted (reply r ∷ xs) = omega (arith, both_counted xs)

follow_more : (before between after : Stand) (relayed : List RelayedFrame) (one : RelayedFrame) → Follow before relayed between → IsNext between one after → Follow before (relayed ++ one ∷ []) after
follow_more before between after [] one same next = (after, subst (λ s. IsNext s one after) same next, refl)
follow_more before between after (first ∷ relayed) one f next = (f.0, f.1, follow_more f.0 between after relayed one f.2 next)

all_within : (maximum : ℤ) (xs : List RelayedFrame) (one : RelayedFrame) → AllByRecursion (IsWithin maximum) xs → IsWithin maximum one → AllByRecursion (IsWithin maximum) (xs ++ one ∷ [])
all_within maximum [] one all within = (within, tt)
all_within maximum (x ∷ xs) one all within = (all.0, all_within maximum xs one all.1 within)

-- what passed over a link to one side, by the frames of both
carried_more : (old mid new : State) (f g : List RelayedFrame → List Passed) (xs ys : List RelayedFrame) → f (xs ++ ys) ≡ f xs ++ f ys → g (xs ++ ys) ≡ g xs ++ g ys
    → Carries old mid (taken_of (f xs)) (sent_of (g xs)) → Carries mid new (taken_of (f ys)) (sent_of (g ys)) → Carries old new (taken_of (f (xs ++ ys))) (sent_of (g (xs ++ ys)))
carried_more old mid new f g xs ys p q had more =
    let taken : taken_of (f (xs ++ ys)) ≡ taken_of (f xs) ++ taken_of (f ys) = ap taken_of p ∙ flat_map-append (λ c. c.frame) (f xs) (f ys) in
    let sent : sent_of (g (xs ++ ys)) ≡ sent_of (g xs) ++ sent_of (g ys) = ap sent_of q ∙ flat_map-append (λ c. c.sent) (g xs) (g ys) in
    subst (λ t. Carries old new t (sent_of (g (xs ++ ys)))) (sym taken) (subst (Carries old new (taken_of (f xs) ++ taken_of (f ys))) (sym sent)
    (carried_on old mid new (taken_of (f xs)) (sent_of (g xs)) (taken_of (f ys)) (sent_of (g ys)) had more))

counts_none : Counts [] (record { commands = 0; replies = 0; ended = false })
counts_none = record { commands_are = refl; replies_are = refl }

one_of : (waits : Awaited) (id : ℤ) (one : RelayedFrame) (after : Stand) (relayed : List RelayedFrame) (done : Relayed) → IsNextOf waits id one after → Counts relayed done → Counts (relayed ++ one ∷ []) (counted done waits)
one_of awaited.Command id (command c) after relayed done next counts = record {
  commands_are = omega (arith, counts.commands_are, ap length (commands_append relayed (command c ∷ [])), length-append (commands relayed) (c ∷ []));
  replies_are = omega (arith, counts.replies_are, ap length (replies_append relayed (command c ∷ [])), length-append (replies relayed) []);
}
one_of awaited.Command id (reply r) after relayed done next counts = absurd next
one_of (awaited.Reply asked) id (command c) after relayed done next counts = absurd next
one_of (awaited.Reply asked) id (reply r) after relayed done next counts = record {
  commands_are = omega (arith, counts.commands_are, ap length (commands_append relayed (reply r ∷ [])), length-append (commands relayed) []);
  replies_are = omega (arith, counts.replies_are, ap length (replies_append relayed (reply r ∷ [])), length-append (replies relayed) (r ∷ []));
}

still_not_ended : (done : Relayed) (waits : Awaited) → done.ended ≡ false → (counted done waits).ended ≡ false
still_not_ended done awaited.Command none = none
still_not_ended done (awaited.Reply asked) none = none

-- ---- turn after turn

pub begun : (maximum first : ℤ) (old : Sides) → Relaying maximum first old old (beginning first) 0 (record { commands = 0; replies = 0; ended = false })
begun maximum first old = record {
  relayed = [];
  has_relayed = record { follow = refl; each = tt; client = nothing_carried old.client; server = nothing_carried old.server };
  counted = refl;
  counts = counts_none;
  not_ended = refl;
}

pub one_more : (maximum first : ℤ) (old mid new : Sides) (before after : Stand) (count : ℕ) (done : Relayed) → Relaying maximum first old mid before count done → PassesOne maximum before after mid new
    → Relaying maximum first old new after (count + 1) (counted done before.awaited)
one_more maximum first old mid new before after count done h p =
    let one = p.relayed ∷ [] in
    let had = h.has_relayed in
    record {
      relayed = h.relayed ++ one;
      has_relayed = record {
        follow = follow_more (beginning first) before after h.relayed p.relayed had.follow p.is_next;
        each = all_within maximum h.relayed p.relayed had.each p.within;
        client = carried_more old.client mid.client new.client commands replies h.relayed one (commands_append h.relayed one) (replies_append h.relayed one) had.client p.client;
        server = carried_more old.server mid.server new.server replies commands h.relayed one (replies_append h.relayed one) (commands_append h.relayed one) had.server p.server;
      };
      counted = length-append h.relayed one ∙ ap (λ n. n + 1) h.counted;
      counts = one_of before.awaited before.id p.relayed after h.relayed done p.is_next h.counts;
      not_ended = still_not_ended done before.awaited h.not_ended;
    }

pub few_counted : (maximum first : ℤ) (old mid : Sides) (before : Stand) (count : ℕ) (done : Relayed) → Relaying maximum first old mid before count done → done.commands + done.replies ≡ count
few_counted maximum first old mid before count done h = omega (arith, h.counts.commands_are, h.counts.replies_are, both_counted h.relayed, h.counted)

pub went_on : (maximum first : ℤ) (old now : Sides) (after : Stand) (count most : ℕ) (done : Relayed) → count ≡ most → Relaying maximum first old now after count done → RelaysWhole maximum most first after.id old now done
went_on maximum first old now after count most done all h = record {
  relayed = h.relayed;
  after = after;
  between = now;
  has_relayed = h.has_relayed;
  apart = ids_apart (beginning first) after h.relayed h.has_relayed.follow;
  counts = h.counts;
  ends = rw h.not_ended (h.counted ∙ all, refl);
  next = refl;
}

pub has_ended : (maximum first last : ℤ) (old mid new : Sides) (after : Stand) (count most : ℕ) (done : Relayed) → count < most → Relaying maximum first old mid after count done
    → ClientEnded mid new after × (last ≡ after.id) → RelaysWhole maximum most first last old new (record { commands = done.commands; replies = done.replies; ended = true })
has_ended maximum first last old mid new after count most done fewer h e = record {
  relayed = h.relayed;
  after = after;
  between = mid;
  has_relayed = h.has_relayed;
  apart = ids_apart (beginning first) after h.relayed h.has_relayed.follow;
  counts = record { commands_are = h.counts.commands_are; replies_are = h.counts.replies_are };
  ends = (omega (arith, h.counted, fewer), e.0);
  next = e.1;
}

pub was_cut : (maximum first last : ℤ) (old mid new : Sides) (after : Stand) (count most : ℕ) (done : Relayed) (stop : Stop) → count < most → Relaying maximum first old mid after count done
    → Stops stop.side maximum after mid new last stop.error.kind → RelaysCut maximum most first last old new (record { side = stop.side; error = stop.error; done = done })
was_cut maximum first last old mid new after count most done stop fewer h stops = record {
  relayed = h.relayed;
  after = after;
  between = mid;
  has_relayed = h.has_relayed;
  apart = ids_apart (beginning first) after h.relayed h.has_relayed.follow;
  counts = h.counts;
  not_ended = h.not_ended;
  fewer = omega (arith, h.counted, fewer);
  stops = stops;
}
