-- Why a stream was left, by what its parts say.
use Rattle.std.proofs.Common.{◌≡◌, ◌⊎◌, ℕ, ℤ, pos, ◌+◌, ◌<◌, ◌≤◌, ◌≤ℤ◌, Option, None, Some, IfSome, List, [], ◌++◌, length, is_some, inl, inr, refl, sym, ap, ◌∙◌, subst, arith, length-append, append-nil}
use Rattle.std.proofs.lemmas.Bool.{false≢true}
use Rattle.std.proofs.lemmas.Int.{ints}
use Rattle.std.specs.Io.KnownBytes.{Consumes}
use Rattle.mongo_bson.specs.Framed.{maximum_length}
use Rattle.mongo_bson.specs.declared.fault.BsonFault.{BsonFault}
use Rattle.mongo_bson.specs.declared.fault.BsonFault.TheVariants.{TooLong, OutOfMemory as NoMemory}
use Rattle.mongo_wire.proofs.OneFrame.{signed_in}
use Rattle.mongo_wire.specs.Error.{kind_of_frame_fault}
use Rattle.mongo_wire.specs.Header.{code_number, signed_at}
use Rattle.mongo_wire.specs.Message.{ReadRefused}
use Rattle.mongo_wire.specs.Outside.{State, ReadsOn, ReadStops, RanOut, Unstopped, WritesOn}
use Rattle.mongo_wire.specs.Rows.{FrameRow, IsStarted, IsUnfinished, IsEmptied, TakesRow}
use Rattle.mongo_wire.specs.declared.error.ErrorKind.{ErrorKind}
use Rattle.mongo_wire.specs.declared.error.ErrorKind.TheVariants.{InvalidArgument, InvalidResponse, EndOfInput}
use Rattle.mongo_wire.specs.declared.fault.FrameFault.{FrameFault}
use Rattle.mongo_wire.specs.declared.fault.FrameFault.TheVariants as frame
use Rattle.mongo_wire.specs.declared.op_code.OpCode.TheVariants.{Message, Query}
use Rattle.mongo_service.specs.declared.fault.ServeFault.{ServeFault}
use Rattle.mongo_service.specs.declared.fault.ServeFault.TheVariants.{ReadFault, WriteFault, CutFrame, NoFrame, NoHello, ReplyTooLong, TooManyRequests, OutOfMemory}
use Rattle.mongo_service.specs.Cut.{HasCause, CountsFault, IsNoRequest, IsPart, TookSome}
use Rattle.mongo_service.specs.Faults.{fault_of_bson, fault_of_frame, IsOfBuilding}
use Rattle.mongo_server.specs.Announced.{maximum_message_length}
use Rattle.mongo_session.specs.Replies.{TooLongFor}
use Rattle.mongo_service.specs.Sent.{WriteCause}
use Rattle.mongo_session.specs.Requests.{IsHello}
use Rattle.mongo_service.specs.Served.{HasCauseAfter, Lasts}
use Rattle.mongo_service.specs.Taken.{IsQuery}
use Rattle.mongo_service.specs.ServedRequests.{ServedRequest}
use Rattle.mongo_service.proofs.Lasts.{counted_after, end_after, lasts_unstopped}
use Rattle.mongo_service.proofs.NoRequest.{ended_within, IsShort, no_message, unfinished, untold_zeros, untold_zeros_begin_none}

-- ---- reading was refused

-- the bytes that were taken
pub record StoppedWithCause (fault : ServeFault) (old mid new : State) (front : List ℕ) (wanted : ℕ) : Type 0 where
  pub taken : List ℕ
  pub within : length taken ≤ wanted
  pub consumed : Consumes mid.left new.left taken
  pub counted : CountsFault fault old new
  pub cause : HasCause fault old new [] (front ++ taken)

ran_empty : (old new : Option (List ℕ)) (wanted : ℕ) → is_some new ≡ is_some old → RanOut old new wanted → IsEmptied new
ran_empty None None wanted tells r = tt
ran_empty None (Some xs) wanted tells r = absurd (false≢true (sym tells))
ran_empty (Some xs) None wanted tells r = tt
ran_empty (Some xs) (Some ys) wanted tells r = let same : Some ys ≡ Some [] = r.1 in cc

-- all that was left was taken, which is some
pub record TakesAll (old mid new : State) (front : List ℕ) (wanted : ℕ) : Type 0 where
  pub taken : List ℕ
  pub within : length taken ≤ wanted
  pub consumed : Consumes mid.left new.left taken
  pub some : TookSome old (front ++ taken)
  pub few : IsShort wanted taken

told_some : (before now : Option (List ℕ)) (front more : List ℕ) → Consumes before now front → IfSome now (λ _. 0 < length more) → IfSome before (λ _. 0 < length more)
told_some None now front more p some = tt
told_some (Some xs) None front more p some = absurd p
told_some (Some xs) (Some ys) front more p some = some

some_after : (left : Option (List ℕ)) (front xs : List ℕ) → left ≡ Some xs → IfSome left (λ bytes. 0 < length (front ++ bytes)) → IfSome left (λ _. 0 < length (front ++ xs))
some_after None front xs is some = tt
some_after (Some ys) front xs is some = let same : ys ≡ xs = cc in subst (λ zs. 0 < length (front ++ zs)) same some

all_taken : (old mid new : State) (front : List ℕ) (wanted : ℕ) (left : Option (List ℕ)) → mid.left ≡ left → Consumes old.left mid.left front → IfSome mid.left (λ bytes. 0 < length (front ++ bytes)) → RanOut left new.left wanted
    → TakesAll old mid new front wanted
all_taken old mid new front wanted None is before some r =
    record { taken = []; within = omega arith; consumed = subst (λ l. Consumes l new.left []) (sym is) tt; some = told_some old.left mid.left front (front ++ []) before (subst (λ l. IfSome l (λ _. 0 < length (front ++ []))) (sym is) tt); few = inr refl }
all_taken old mid new front wanted (Some xs) is before some r =
    let all : Consumes (Some xs) new.left xs = rw r.1 (sym (append-nil xs)) in
    record { taken = xs; within = omega (arith, r.0); consumed = subst (λ l. Consumes l new.left xs) (sym is) all; some = told_some old.left mid.left front (front ++ xs) before (some_after mid.left front xs is some); few = inl r.0 }

pub cause_of_stop : (fault : FrameFault) (old mid new : State) (front : List ℕ) (wanted : ℕ) → Lasts old mid → Consumes old.left mid.left front → (kind_of_frame_fault fault ≡ EndOfInput → IfSome mid.left (λ bytes. 0 < length (front ++ bytes)))
    → ((taken : List ℕ) → IsShort wanted taken → IsNoRequest (front ++ taken)) → ReadsOn mid new → ReadStops (kind_of_frame_fault fault) mid new wanted → StoppedWithCause (fault_of_frame fault) old mid new front wanted
cause_of_stop frame.ReadFault old mid new front wanted lasts before some short on s =
    record { taken = s.1.0; within = omega (arith, s.1.1); consumed = s.1.2; counted = counted_after ReadFault old mid new lasts (s.0, on.unwritten.writes); cause = (refl, short s.1.0 (inl s.1.1)) }
cause_of_stop frame.EndOfInput old mid new front wanted lasts before some short on s =
    let all = all_taken old mid new front wanted mid.left refl before (some refl) s.1 in
    record { taken = all.taken; within = all.within; consumed = all.consumed; counted = end_after old mid new lasts (s.0, on.unwritten.writes); cause = (ran_empty mid.left new.left wanted on.tells s.1, refl, all.some, short all.taken all.few) }
cause_of_stop frame.OutOfMemory old mid new front wanted lasts before some short on s = record { taken = s.1.0; within = s.1.1; consumed = s.1.2; counted = counted_after OutOfMemory old mid new lasts (s.0, on.unwritten.writes); cause = inl refl }
cause_of_stop (frame.InvalidArgument _) old mid new front wanted lasts before some short on s = absurd s
cause_of_stop (frame.InvalidResponse _) old mid new front wanted lasts before some short on s = absurd s

-- after some bytes
pub some_before : (left : Option (List ℕ)) (front : List ℕ) → 0 < length front → IfSome left (λ bytes. 0 < length (front ++ bytes))
some_before None front some = tt
some_before (Some bytes) front some = omega (arith, some, length-append front bytes)

-- ---- an OP_MSG was refused

pub record Refused (fault : ServeFault) (old new : State) : Type 0 where
  pub taken : List ℕ
  pub part : IsPart taken
  pub consumed : Consumes old.left new.left taken
  pub counted : CountsFault fault old new
  pub cause : HasCause fault old new [] taken

started : (maximum : ℤ) (taken : List ℕ) → IsUnfinished maximum taken → IsStarted maximum taken
started maximum taken (inl short) = inl (omega (arith, short))
started maximum taken (inr (passes, short)) = inr (passes, omega (arith, ints, short))

row_started : (maximum : ℤ) (taken : List ℕ) (kind : ErrorKind) → FrameRow maximum taken kind → IsStarted maximum taken
row_started maximum taken kind (inl short) = inl (omega (arith, short.short))
row_started maximum taken kind (inr (inl row)) = inl (omega (arith, row.header))
row_started maximum taken kind (inr (inr (inl short))) = inr (short.passes, omega (arith, ints, short.short))
row_started maximum taken kind (inr (inr (inr none))) = inr (none.passes, omega (arith, ints, none.whole))

row_whole : (maximum : ℤ) (taken : List ℕ) (kind : ErrorKind) → (kind ≡ EndOfInput → ⊥) → FrameRow maximum taken kind → 16 ≤ length taken
row_whole maximum taken kind whole (inl short) = absurd (whole short.kind_is)
row_whole maximum taken kind whole (inr (inl row)) = omega (arith, row.header)
row_whole maximum taken kind whole (inr (inr (inl short))) = short.passes.whole
row_whole maximum taken kind whole (inr (inr (inr none))) = none.passes.whole

-- what was emptied was taken
emptied_some : (old new : Option (List ℕ)) (taken : List ℕ) → IfSome old (λ bytes. 0 < length bytes) → Consumes old new taken → IsEmptied new → IfSome old (λ _. 0 < length taken)
emptied_some None new taken some p empty = tt
emptied_some (Some xs) None taken some p empty = absurd p
emptied_some (Some xs) (Some ys) taken some p empty = omega (arith, some, ap length p, length-append taken ys, ap length empty)

-- the op code of an OP_MSG
abbrev IsOfMessage : List ℕ → Type 0
IsOfMessage bytes = signed_at 12 bytes ≡ code_number Message

message_taken : (xs taken : List ℕ) (new : Option (List ℕ)) → IsOfMessage xs → 16 ≤ length taken → Consumes (Some xs) new taken → IsOfMessage taken
message_taken xs taken None message whole p = absurd p
message_taken xs taken (Some ys) message whole p = sym (signed_in 12 taken ys (omega arith)) ∙ ap (signed_at 12) (sym p) ∙ message

-- the bytes of an OP_MSG call for a row; where none are told, any do that begin no request
row_refused : (kind : ErrorKind) (old new : State) (left : Option (List ℕ)) → old.left ≡ left → (kind ≡ EndOfInput → ⊥) → IfSome old.left IsOfMessage → ReadsOn old new → Unstopped old new → TakesRow kind maximum_message_length old.left new.left → Refused NoFrame old new
row_refused kind old new None is other message on still row =
    record { taken = untold_zeros; part = inl (inl (omega arith)); consumed = subst (λ left. Consumes left new.left untold_zeros) (sym is) tt; counted = (still, on.unwritten.writes); cause = (refl, omega arith, untold_zeros_begin_none) }
row_refused kind old new (Some xs) is other message on still row =
    let taken = row.0 in
    let whole = row_whole maximum_message_length taken kind other row.2 in
    let code = message_taken xs taken new.left (subst (λ left. IfSome left IsOfMessage) is message) whole (subst (λ left. Consumes left new.left taken) is row.1) in
    record { taken = taken; part = inl (row_started maximum_message_length taken kind row.2); consumed = row.1; counted = (still, on.unwritten.writes); cause = (refl, whole, no_message taken kind whole code other row.2) }

pub cause_of_refusal : (fault : FrameFault) (old new : State) → IfSome old.left (λ bytes. 0 < length bytes) → IfSome old.left IsOfMessage → ReadsOn old new → ReadRefused (kind_of_frame_fault fault) maximum_message_length old new → Refused (fault_of_frame fault) old new
cause_of_refusal frame.ReadFault old new some message on h =
    record { taken = h.1.0; part = inl (started maximum_message_length h.1.0 h.1.2); consumed = h.1.1; counted = (h.0, on.unwritten.writes); cause = (refl, unfinished maximum_message_length h.1.0 h.1.2) }
cause_of_refusal frame.EndOfInput old new some message on h =
    record { taken = h.1.0; part = inl (row_started maximum_message_length h.1.0 EndOfInput h.1.2); consumed = h.1.1; counted = (h.0, on.unwritten.writes); cause = (h.2, refl, emptied_some old.left new.left h.1.0 some h.1.1 h.2, ended_within maximum_message_length h.1.0 h.1.2) }
cause_of_refusal frame.OutOfMemory old new some message on h = record { taken = h.1.0; part = inl h.1.2; consumed = h.1.1; counted = (h.0, on.unwritten.writes); cause = inl refl }
cause_of_refusal (frame.InvalidArgument f) old new some message on h = row_refused (InvalidArgument f) old new old.left refl (λ e. cc) message on h.0 h.1
cause_of_refusal (frame.InvalidResponse f) old new some message on h = row_refused (InvalidResponse f) old new old.left refl (λ e. cc) message on h.0 h.1

-- ---- fronts

pub header_part : (head : List ℕ) → length head ≤ 16 → IsPart head
header_part head short = inl (inl short)

pub query_front_taken : (head rest : List ℕ) (wanted : ℕ) → length head ≡ 16 → signed_at 12 head ≡ code_number Query → pos (16 + wanted) ≡ signed_at 0 head → pos (16 + wanted) ≤ℤ maximum_message_length → length rest ≤ wanted → IsPart (head ++ rest)
query_front_taken head rest wanted sixteen code counted within short =
    inr (inl (record {
      head = head;
      rest = rest;
      spelled = refl;
      sixteen = sixteen;
      code = code;
      front = subst (λ z. pos (length (head ++ rest)) ≤ℤ z) counted (omega (arith, ints, length-append head rest, sixteen, short));
      within = subst (λ z. z ≤ℤ maximum_message_length) counted within;
    }))

-- ---- a write was refused

pub is_of_building : (document : List ℕ) (fault : BsonFault) → TooLongFor fault document → IsOfBuilding fault
is_of_building document TooLong is = tt
is_of_building document NoMemory is = tt
is_of_building document fault is = absurd is

pub document_cause : (too_long : Type 0) (document : List ℕ) (fault : BsonFault) (old : State) → (maximum_length < length document → too_long) → TooLongFor fault document → WriteCause too_long (fault_of_bson fault) old old
document_cause too_long document TooLong old long is = (long is, refl)
document_cause too_long document NoMemory old long is = refl
document_cause too_long document fault old long is = absurd is

-- the cause of a reply that is too long
pub long_cause : (too_long : Type 0) (fault : ServeFault) (old new : State) → WriteCause too_long fault old new → Some fault ≡ Some ReplyTooLong → too_long
long_cause too_long fault old new cause is = let same : fault ≡ ReplyTooLong = cc in (subst (λ f. WriteCause too_long f old new) same cause).0

pub write_cause : (too_long : Type 0) (fault : ServeFault) (old mid new : State) (cut : List ServedRequest) → length cut ≡ 1 → Lasts old mid → WriteCause too_long fault mid new → HasCause fault old new cut []
write_cause too_long WriteFault old mid new cut one lasts w = (one, refl)
write_cause too_long ReplyTooLong old mid new cut one lasts w = (one, refl)
write_cause too_long OutOfMemory old mid new cut one lasts w = inr refl
write_cause too_long fault old mid new cut one lasts w = absurd w

pub write_counted : (too_long : Type 0) (fault : ServeFault) (old mid new : State) → Lasts old mid → WritesOn mid new → WriteCause too_long fault mid new → CountsFault fault old new
write_counted too_long WriteFault old mid new lasts on w = counted_after WriteFault old mid new lasts (record { reads = on.unread.reads; ends = on.unread.ends }, w)
write_counted too_long ReplyTooLong old mid new lasts on w = counted_after ReplyTooLong old mid new lasts (record { reads = on.unread.reads; ends = on.unread.ends }, ap (λ s. s.write_faults) w.1)
write_counted too_long OutOfMemory old mid new lasts on w = counted_after OutOfMemory old mid new lasts (record { reads = on.unread.reads; ends = on.unread.ends }, w)
write_counted too_long fault old mid new lasts on w = absurd w

-- ---- after the requests before

pub cause_after : (fault : ServeFault) (count : ℕ) (old mid new : State) (taken : List ℕ) (cut : List ServedRequest) (more : List ℕ) → Lasts old mid → Consumes old.left mid.left taken → HasCause fault mid new cut more → HasCauseAfter fault count old new cut more
cause_after ReadFault count old mid new taken cut more lasts before c = c
cause_after WriteFault count old mid new taken cut more lasts before c = c
cause_after CutFrame count old mid new taken cut more lasts before c = (c.0, c.1, told_some old.left mid.left taken more before c.2, c.3)
cause_after TooManyRequests count old mid new taken cut more lasts before c = absurd c
cause_after fault count old mid new taken cut more lasts before c = c

-- ---- an OP_QUERY that isn't answered

pub unasked : (fault : ServeFault) (old new : State) (bytes command : List ℕ) → IsQuery bytes command → (fault ≡ OutOfMemory) ⊎ ((fault ≡ NoHello) × (IsHello command → ⊥)) → HasCause fault old new [] bytes
unasked fault old new bytes command is_query (inl memory) = subst (λ f. HasCause f old new [] bytes) (sym memory) (inl refl)
unasked fault old new bytes command is_query (inr (other, none)) = subst (λ f. HasCause f old new [] bytes) (sym other) (refl, (command, is_query, none))

pub unasked_counted : (fault : ServeFault) (old new : State) (command : List ℕ) → (fault ≡ OutOfMemory) ⊎ ((fault ≡ NoHello) × (IsHello command → ⊥)) → Lasts old new → CountsFault fault old new
unasked_counted fault old new command (inl memory) lasts = subst (λ f. CountsFault f old new) (sym memory) (lasts_unstopped old new lasts, lasts.writes)
unasked_counted fault old new command (inr (other, none)) lasts = subst (λ f. CountsFault f old new) (sym other) (lasts_unstopped old new lasts, lasts.writes)
