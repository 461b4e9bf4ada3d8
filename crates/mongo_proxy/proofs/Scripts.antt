-- Two sides that behave are relayed to the end.
use Rattle.std.proofs.Common.{◌≡◌, ℕ, ℤ, ◌<◌, ◌≤◌, ◌⊎◌, Bool, true, false, Option, None, Some, IfSome, Result, Ok, Err, List, [], ◌∷◌, ◌++◌, length, take, inl, inr, refl, sym, ap, ◌∙◌, subst, append-nil, append_assoc, arith, length-append}
use Rattle.std.proofs.lemmas.List.{take_all, take_at}
use Rattle.std.specs.Io.KnownBytes.{Appends, Consumes}
use Rattle.std.specs.List.{AllByRecursion}
use Rattle.mongo_wire.proofs.FrameRead.{no_refused_frame}
use Rattle.mongo_wire.proofs.OneFrame.{least_frame}
use Rattle.mongo_wire.specs.Message.{IsUnreadable, ReadRefused}
use Rattle.mongo_wire.specs.Outside.{State, FailsToRead, HasMore, Unfailed, WriteStops, risen}
use Rattle.mongo_wire.specs.Rows.{FrameRow, TakesRow}
use Rattle.mongo_wire.specs.declared.error.ErrorKind.{ErrorKind}
use Rattle.mongo_wire.specs.declared.error.ErrorKind.TheVariants.{ReadFault, WriteFault, EndOfInput, OutOfMemory, InvalidArgument, InvalidResponse}
use Rattle.mongo_proxy.specs.RelayedFrames.{RelayedFrame, command, reply, commands, replies, Stand, stand, Follow, IsWithin, taken_of, sent_of}
use Rattle.mongo_proxy.specs.Relays.{Counts, EndsWhole, HasRelayed, Relays, RelaysWhole}
use Rattle.mongo_proxy.specs.Script.{Completes, IsScript, NothingFailed, RelaysScript}
use Rattle.mongo_proxy.specs.Sides.{Sides, Lasts}
use Rattle.mongo_proxy.specs.Stops.{NoCommand, NoReply, StopsOn}
use Rattle.mongo_proxy.specs.declared.awaited.Asked.{Asked}
use Rattle.mongo_proxy.specs.declared.awaited.Awaited.{Awaited}
use Rattle.mongo_proxy.specs.declared.awaited.Awaited.TheVariants as awaited
use Rattle.mongo_proxy.specs.declared.relayed.Relayed.{Relayed}
use Rattle.mongo_proxy.specs.declared.relayed.RelayFault.{RelayFault}
use Rattle.mongo_proxy.specs.declared.relayed.Side.{Side}
use Rattle.mongo_proxy.specs.declared.relayed.Side.TheVariants.{Client, Server}
use Rattle.mongo_proxy.proofs.Continues.{EndsBefore, continues}

-- ---- what is left of a script

-- what is left after some bytes were consumed of these
abbrev Leaves : Option (List ℕ) → List ℕ → List ℕ → Type 0
Leaves now taken bytes = (left : List ℕ) × (now ≡ Some left) × (taken ++ left ≡ bytes)

left_of : (old now : Option (List ℕ)) (taken bytes : List ℕ) → old ≡ Some bytes → Consumes old now taken → Leaves now taken bytes
left_of old now taken bytes is consumed = by now (rw is at consumed)
  where
    by : (now : Option (List ℕ)) → Consumes (Some bytes) now taken → Leaves now taken bytes
    by None c = absurd c
    by (Some left) c = (left, refl, sym c)

-- what is left of a script after the frames that were passed on
record ScriptLeft (maximum : ℤ) (most : ℕ) (relayed script : List RelayedFrame) (between : Sides) (after : Stand) : Type 0 where
  more : List RelayedFrame
  last : Stand
  client_rest : List ℕ
  server_rest : List ℕ
  joined : script ≡ relayed ++ more
  follow : Follow after more last
  each : AllByRecursion (IsWithin maximum) more
  client_is : between.client.left ≡ Some (taken_of (commands more) ++ client_rest)
  server_is : between.server.left ≡ Some (taken_of (replies more) ++ server_rest)
  ends : (most ≤ length script) ⊎ ((last.awaited ≡ awaited.Command) × (client_rest ≡ []))

all_after : (maximum : ℤ) (xs ys : List RelayedFrame) → AllByRecursion (IsWithin maximum) (xs ++ ys) → AllByRecursion (IsWithin maximum) ys
all_after maximum [] ys all = all
all_after maximum (x ∷ xs) ys all = all_after maximum xs ys all.1

ends_before : (most : ℕ) (relayed script : List RelayedFrame) (last : Stand) (rest : List ℕ) → length relayed ≤ most → (most ≤ length script) ⊎ ((last.awaited ≡ awaited.Command) × (rest ≡ [])) → EndsBefore relayed script last rest
ends_before most relayed script last rest few (inl many) = inl (omega (arith, few, many))
ends_before most relayed script last rest few (inr e) = inr e

script_left : (maximum first : ℤ) (most : ℕ) (old between : Sides) (after : Stand) (relayed script : List RelayedFrame) → HasRelayed maximum first old between after relayed → length relayed ≤ most → IsScript maximum first most old script
    → ScriptLeft maximum most relayed script between after
script_left maximum first most old between after relayed script h few s =
    let client = left_of old.client.left between.client.left (taken_of (commands relayed)) (taken_of (commands script) ++ s.client_rest) s.client_is h.client.consumed in
    let server = left_of old.server.left between.server.left (taken_of (replies relayed)) (taken_of (replies script) ++ s.server_rest) s.server_is h.server.consumed in
    let on = continues awaited.Command first relayed script after s.after client.0 s.client_rest server.0 s.server_rest h.follow s.follow client.2 server.2 (ends_before most relayed script s.after s.client_rest few s.ends) in
    record {
      more = on.more;
      last = s.after;
      client_rest = s.client_rest;
      server_rest = s.server_rest;
      joined = on.joined;
      follow = on.follow;
      each = all_after maximum relayed on.more (subst (AllByRecursion (IsWithin maximum)) on.joined s.each);
      client_is = client.1 ∙ ap Some on.client;
      server_is = server.1 ∙ ap Some on.server;
      ends = s.ends;
    }

-- ---- no fault is met but want of memory

-- a link on which nothing failed counted no fault before or in this
no_read_fault : (old mid new : State) → Lasts old mid → Unfailed old new → FailsToRead mid new → ⊥
no_read_fault old mid new lasts unfailed fails = unfailed.reads (fails.reads ∙ ap risen lasts.reads)

only_memory_read : (kind : ErrorKind) (maximum : ℤ) (old mid new : State) → Lasts old mid → Unfailed old new → ReadRefused kind maximum mid new → IsUnreadable kind → kind ≡ OutOfMemory
only_memory_read OutOfMemory maximum old mid new lasts unfailed refused is = refl
only_memory_read ReadFault maximum old mid new lasts unfailed refused is = absurd (no_read_fault old mid new lasts unfailed refused.0)
only_memory_read kind maximum old mid new lasts unfailed refused is = absurd is

only_memory_written : (kind : ErrorKind) (old mid new : State) (sent : List ℕ) → Lasts old mid → Unfailed old new → WriteStops kind mid new sent → kind ≡ OutOfMemory
only_memory_written OutOfMemory old mid new sent lasts unfailed stops = refl
only_memory_written WriteFault old mid new sent lasts unfailed stops = absurd (unfailed.writes (stops.0 ∙ ap risen lasts.writes))
only_memory_written kind old mid new sent lasts unfailed stops = absurd stops

-- where nothing is left, no row is called for but the end
no_row : (kind : ErrorKind) (maximum : ℤ) (old new : Option (List ℕ)) → old ≡ Some [] → (kind ≡ EndOfInput → ⊥) → TakesRow kind maximum old new → ⊥
no_row kind maximum old new is other (taken, consumed, row) = by new (rw is at consumed)
  where
    none : taken ≡ [] → FrameRow maximum taken kind → ⊥
    none e (inl short) = other short.kind_is
    none e (inr (inl head)) = omega (arith, ap length e, head.header)
    none e (inr (inr (inl short))) = other short.kind_is
    none e (inr (inr (inr sections))) = omega (arith, ap length e, sections.passes.whole)

    by : (new : Option (List ℕ)) → Consumes (Some []) new taken → ⊥
    by None c = c
    by (Some left) c = none (nothing taken left c) row
      where
        nothing : (taken left : List ℕ) → [] ≡ taken ++ left → taken ≡ []
        nothing [] left e = refl
        nothing (x ∷ taken) left e = absurd (omega (arith, ap length e))

unreadable_at_end : (kind : ErrorKind) (maximum : ℤ) (old new : State) → old.left ≡ Some [] → HasMore kind old.left → ReadRefused kind maximum old new → IsUnreadable kind
unreadable_at_end ReadFault maximum old new is more refused = tt
unreadable_at_end OutOfMemory maximum old new is more refused = tt
unreadable_at_end EndOfInput maximum old new is more refused = absurd (omega (arith, subst (λ left. IfSome left (λ bytes. 0 < length bytes)) is (more refl)))
unreadable_at_end (InvalidResponse fault) maximum old new is more refused = absurd (no_row (InvalidResponse fault) maximum old.left new.left is (λ e. cc) refused.1)
unreadable_at_end (InvalidArgument fault) maximum old new is more refused = absurd (no_row (InvalidArgument fault) maximum old.left new.left is (λ e. cc) refused.1)
unreadable_at_end kind maximum old new is more refused = absurd refused

-- a command stands before what is left, or nothing is left
readable_command : (kind : ErrorKind) (maximum : ℤ) (most : ℕ) (relayed script : List RelayedFrame) (between new : Sides) (id last : ℤ) (l : ScriptLeft maximum most relayed script between (stand awaited.Command id)) → length relayed < most
    → NoCommand maximum between new id last kind → IsUnreadable kind
readable_command kind maximum most relayed script between new id last l fewer n = by l.more l.joined l.follow l.each l.client_is
  where
    by : (more : List RelayedFrame) → script ≡ relayed ++ more → Follow (stand awaited.Command id) more l.last → AllByRecursion (IsWithin maximum) more → between.client.left ≡ Some (taken_of (commands more) ++ l.client_rest) → IsUnreadable kind
    by [] joined follow each client_is = at_end l.ends
      where
        at_end : (most ≤ length script) ⊎ ((l.last.awaited ≡ awaited.Command) × (l.client_rest ≡ [])) → IsUnreadable kind
        at_end (inl many) = absurd (omega (arith, many, fewer, ap length joined, length-append relayed []))
        at_end (inr e) = unreadable_at_end kind maximum between.client new.client (client_is ∙ ap Some e.1) n.more n.refused
    by (command c ∷ more) joined follow each client_is =
        let is = follow.1.0 in
        no_refused_frame kind maximum between.client new.client c.frame (taken_of (commands more) ++ l.client_rest) is.parts (client_is ∙ ap Some (append_assoc c.frame (taken_of (commands more)) l.client_rest)) is.is_frame each.0 n.refused
    by (reply r ∷ more) joined follow each client_is = absurd follow.1

is_reply : (asked : Asked) → awaited.Reply asked ≡ awaited.Command → ⊥
is_reply asked e = cc

readable_reply : (kind : ErrorKind) (maximum : ℤ) (most : ℕ) (relayed script : List RelayedFrame) (between new : Sides) (asked : Asked) (id last : ℤ) (l : ScriptLeft maximum most relayed script between (stand (awaited.Reply asked) id)) → length relayed < most
    → NoReply maximum between new id last kind → IsUnreadable kind
readable_reply kind maximum most relayed script between new asked id last l fewer n = by l.more l.joined l.follow l.each l.server_is
  where
    by : (more : List RelayedFrame) → script ≡ relayed ++ more → Follow (stand (awaited.Reply asked) id) more l.last → AllByRecursion (IsWithin maximum) more → between.server.left ≡ Some (taken_of (replies more) ++ l.server_rest) → IsUnreadable kind
    by [] joined follow each server_is = at_end l.ends
      where
        at_end : (most ≤ length script) ⊎ ((l.last.awaited ≡ awaited.Command) × (l.client_rest ≡ [])) → IsUnreadable kind
        at_end (inl many) = absurd (omega (arith, many, fewer, ap length joined, length-append relayed []))
        at_end (inr e) = absurd (is_reply asked (sym (ap (λ s. s.awaited) follow) ∙ e.0))
    by (command c ∷ more) joined follow each server_is = absurd follow.1
    by (reply c ∷ more) joined follow each server_is =
        let is = follow.1.0 in
        no_refused_frame kind maximum between.server new.server c.frame (taken_of (replies more) ++ l.server_rest) is.parts (server_is ∙ ap Some (append_assoc c.frame (taken_of (replies more)) l.server_rest)) is.is_frame each.0 n.refused

only_memory : (side : Side) (kind : ErrorKind) (maximum first : ℤ) (most : ℕ) (relayed script : List RelayedFrame) (old between new : Sides) (waits : Awaited) (id last : ℤ) → HasRelayed maximum first old between (stand waits id) relayed
    → ScriptLeft maximum most relayed script between (stand waits id) → length relayed < most → NothingFailed old new → StopsOn side waits maximum between new id last kind → kind ≡ OutOfMemory
only_memory Client kind maximum first most relayed script old between new awaited.Command id last h l fewer nothing n =
    only_memory_read kind maximum old.client between.client new.client h.client.lasts nothing.client n.refused (readable_command kind maximum most relayed script between new id last l fewer n)
only_memory Server kind maximum first most relayed script old between new awaited.Command id last h l fewer nothing n =
    only_memory_written kind old.server between.server new.server n.command.sent h.server.lasts nothing.server n.stops.stops
only_memory Server kind maximum first most relayed script old between new (awaited.Reply asked) id last h l fewer nothing n =
    only_memory_read kind maximum old.server between.server new.server h.server.lasts nothing.server n.refused (readable_reply kind maximum most relayed script between new asked id last l fewer n)
only_memory Client kind maximum first most relayed script old between new (awaited.Reply asked) id last h l fewer nothing n =
    only_memory_written kind old.client between.client new.client n.reply.sent h.client.lasts nothing.client n.stops.stops

-- ---- it ends without a fault

-- the first frames of a script, as many as were passed on
first_of : (most : ℕ) (relayed more script : List RelayedFrame) → script ≡ relayed ++ more → (length relayed ≡ most) ⊎ ((more ≡ []) × (length relayed ≤ most)) → take most script ≡ relayed
first_of most relayed more script joined (inl all) = ap (take most) joined ∙ take_at relayed more most all
first_of most relayed more script joined (inr (none, few)) = ap (take most) (joined ∙ ap (λ m. relayed ++ m) none ∙ append-nil relayed) ∙ take_all most relayed few

is_true : (b : Bool) → b ≡ false → b ≡ true → ⊥
is_true b p q = cc

relays_script : (most : ℕ) (old new : Sides) (relayed script : List RelayedFrame) (done : Relayed) → take most script ≡ relayed → Counts relayed done
    → Appends old.server.written new.server.written (sent_of (commands relayed)) → Appends old.client.written new.client.written (sent_of (replies relayed))
    → (done.ended ≡ true → length script < most) → (length script < most → done.ended ≡ true) → RelaysScript most old new script done
relays_script most old new relayed script done is counts server client ended whole = record {
  counts = subst (λ l. Counts l done) (sym is) counts;
  to_server = subst (λ l. Appends old.server.written new.server.written (sent_of (commands l))) (sym is) server;
  to_client = subst (λ l. Appends old.client.written new.client.written (sent_of (replies l))) (sym is) client;
  ended = ended;
  whole = whole;
}

-- after the client's end there is no frame more
no_more : (maximum : ℤ) (most : ℕ) (relayed script : List RelayedFrame) (between : Sides) (after : Stand) (l : ScriptLeft maximum most relayed script between after) → after.awaited ≡ awaited.Command
    → IfSome between.client.left (λ bytes. bytes ≡ []) → l.more ≡ []
no_more maximum most relayed script between after l awaits none =
    by l.more (subst (λ s. Follow s l.more l.last) (ap (λ a. stand a after.id) awaits) l.follow) (subst (λ left. IfSome left (λ bytes. bytes ≡ [])) l.client_is none)
  where
    by : (more : List RelayedFrame) → Follow (stand awaited.Command after.id) more l.last → taken_of (commands more) ++ l.client_rest ≡ [] → more ≡ []
    by [] follow empty = refl
    by (command c ∷ more) follow empty =
        let is = follow.1.0 in
        absurd (omega (arith, least_frame c.frame is.parts is.is_frame, ap length empty, length-append (c.frame ++ taken_of (commands more)) l.client_rest, length-append c.frame (taken_of (commands more))))
    by (reply r ∷ more) follow empty = absurd follow.1

most_at_most : (ended : Bool) (most : ℕ) (between new : Sides) (after : Stand) (relayed : List RelayedFrame) → EndsWhole ended most between new after relayed → length relayed ≤ most
most_at_most false most between new after relayed e = omega (arith, e.0)
most_at_most true most between new after relayed e = omega (arith, e.0)

whole_script : (maximum first last : ℤ) (most : ℕ) (old new : Sides) (script : List RelayedFrame) (done : Relayed) (w : RelaysWhole maximum most first last old new done) → IsScript maximum first most old script → RelaysScript most old new script done
whole_script maximum first last most old new script done w s =
    let l = script_left maximum first most old w.between w.after w.relayed script w.has_relayed (most_at_most done.ended most w.between new w.after w.relayed w.ends) s in
    by done.ended refl w.ends l
  where
    by : (ended : Bool) → done.ended ≡ ended → EndsWhole ended most w.between new w.after w.relayed → ScriptLeft maximum most w.relayed script w.between w.after → RelaysScript most old new script done
    by false is e l =
        relays_script most old new w.relayed script done (first_of most w.relayed l.more script l.joined (inl e.0)) w.counts
        (subst (λ n. Appends old.server.written n.server.written (sent_of (commands w.relayed))) (sym e.1) w.has_relayed.server.appended) (subst (λ n. Appends old.client.written n.client.written (sent_of (replies w.relayed))) (sym e.1) w.has_relayed.client.appended)
        (λ also. absurd (is_true done.ended is also)) (λ fewer. absurd (omega (arith, fewer, e.0, ap length l.joined, length-append w.relayed l.more)))
    by true is e l =
        let none = no_more maximum most w.relayed script w.between w.after l e.1.awaits e.1.ended.none in
        let size : length script ≡ length w.relayed = ap length (l.joined ∙ ap (λ m. w.relayed ++ m) none ∙ append-nil w.relayed) in
        relays_script most old new w.relayed script done (first_of most w.relayed l.more script l.joined (inr (none, omega (arith, e.0)))) w.counts
        (subst (λ n. Appends old.server.written n.written (sent_of (commands w.relayed))) (sym e.1.server_is) w.has_relayed.server.appended) (subst (λ written. Appends old.client.written written (sent_of (replies w.relayed))) (sym e.1.written) w.has_relayed.client.appended)
        (λ _. omega (arith, size, e.0)) (λ _. is)

pub completes : (maximum first last : ℤ) (most : ℕ) (old new : Sides) (result : Result Relayed RelayFault) → Relays maximum most first last old new result → (script : List RelayedFrame) → IsScript maximum first most old script → NothingFailed old new
    → Completes most old new script result
completes maximum first last most old new (Ok done) w script s nothing = whole_script maximum first last most old new script done w s
completes maximum first last most old new (Err fault) c script s nothing =
    let l = script_left maximum first most old c.between c.after c.relayed script c.has_relayed (omega (arith, c.fewer)) s in
    only_memory fault.side fault.error.kind maximum first most c.relayed script old c.between new c.after.awaited c.after.id last c.has_relayed l c.fewer nothing c.stops
