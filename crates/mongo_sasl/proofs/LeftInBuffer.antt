-- What an exchange leaves in its buffer, and what two leave, one after the other.
use Rattle.std.proofs.Common.{◌≡◌, ◌∙◌, ℕ, ℤ, pos, ◌≤ℤ◌, length, refl, sym, ap, subst, inl, inr, append_assoc, Option, None, Some, Result, List, [], ◌++◌}
use Rattle.std.specs.Io.KnownBytes.{Keeps, Consumes}
use Rattle.std.proofs.KnownBytes.{Keeps-refl, Keeps-trans, Consumes-kept, Consumes-trans}
use Rattle.mongo_bson.specs.declared.fault.BsonFault.TheVariants.{TooLong}
use Rattle.mongo_wire.specs.declared.error.Error.{Error}
use Rattle.mongo_wire.specs.declared.error.ErrorKind.{ErrorKind}
use Rattle.mongo_wire.specs.declared.error.ErrorKind.TheVariants.{InvalidArgument, WriteFault, OutOfMemory}
use Rattle.mongo_wire.specs.declared.fault.ArgumentFault.TheVariants.{Bson}
use Rattle.mongo_wire.specs.declared.message.Message.{Message}
use Rattle.mongo_wire.specs.Buffer.{HoldsNothing, HoldsFrame, IsFrameTaken}
use Rattle.mongo_wire.specs.Outside.{State}
use Rattle.mongo_command.specs.Connection.{kept_fault, KeepsRest}
use Rattle.mongo_command.specs.Conversation.{Plan}
use Rattle.mongo_command.specs.Exchange.{frame_maximum, SendRefused, BufferRefused, point}
use Rattle.mongo_command.specs.Helper.{Given}
use Rattle.mongo_sasl.specs.EndsByScript.{Standing, HoldsLast, HoldsNoReply, LeavesInBuffer, StopsBy}

-- ---- bytes that are kept

kept_bytes : (old new : Option (List ℕ)) → new ≡ old → Keeps old new
kept_bytes old new is = subst (Keeps old) (sym is) (Keeps-refl old)

-- and then consumed
kept_consumed : (a b c : Option (List ℕ)) (bs : List ℕ) → Keeps a b → Consumes b c bs → Consumes a c bs
kept_consumed None b c bs p q = tt
kept_consumed (Some x) None c bs p q = absurd p
kept_consumed (Some x) (Some y) None bs p q = absurd q
kept_consumed (Some x) (Some y) (Some z) bs p q = sym p ∙ q

-- a message that wasn't sent leaves them
sent_unread : (kind : ErrorKind) (maximum : ℤ) (message : Message) (old new : State) (before after : ℤ) (kept : Option ErrorKind) → SendRefused kind maximum message (point old before) (point new after) kept → new.left ≡ old.left
sent_unread (InvalidArgument (Bson TooLong)) maximum message old new before after kept refused = ap (λ (s : State). s.left) refused.1.link
sent_unread (InvalidArgument fault) maximum message old new before after kept refused = ap (λ (s : State). s.left) refused.2.link
sent_unread WriteFault maximum message old new before after kept refused = refused.1.unread
sent_unread OutOfMemory maximum message old new before after kept (inl unsent) = ap (λ (s : State). s.left) unsent.link
sent_unread OutOfMemory maximum message old new before after kept (inr cut) = cut.1.unread
sent_unread kind maximum message old new before after kept refused = absurd refused

module _ {L : Type 0} (state : L → State) where
  as_it_was : (old new : Standing L) → new.buffer ≡ old.buffer → Keeps (state old.link).left (state new.link).left → LeavesInBuffer state old new
  as_it_was old new buffer kept = record { left = inl (buffer, kept) }

  no_reply_left : (old new : Standing L) → HoldsNoReply new.connection new.buffer → LeavesInBuffer state old new
  no_reply_left old new none = record { left = inr (inl none) }

  last_left : (old new : Standing L) → HoldsLast (frame_maximum old.connection.stream_description) (state old.link) (state new.link) new.buffer → LeavesInBuffer state old new
  last_left old new last = record { left = inr (inr last) }

  -- ---- an exchange

  -- none was made
  pub leaves_all : (old : Standing L) → LeavesInBuffer state old old
  leaves_all old = as_it_was old old refl (Keeps-refl (state old.link).left)

  -- nothing was done to the link and the buffer
  pub leaves_same : (old new : Standing L) → new.link ≡ old.link → new.buffer ≡ old.buffer → LeavesInBuffer state old new
  leaves_same old new link buffer = as_it_was old new buffer (kept_bytes (state old.link).left (state new.link).left (ap (λ l. (state l).left) link))

  -- its message wasn't sent, or no reply came
  pub refused_leaves : (kind : ErrorKind) (maximum : ℤ) (message : Message) (old new : Standing L)
      → BufferRefused kind maximum message (point (state old.link) old.id) (point (state new.link) new.id) (kept_fault new.connection) old.buffer new.buffer → LeavesInBuffer state old new
  refused_leaves kind maximum message old new (inl unsent) =
      as_it_was old new unsent.1 (kept_bytes (state old.link).left (state new.link).left (sent_unread kind maximum message (state old.link) (state new.link) old.id new.id (kept_fault new.connection) unsent.0))
  refused_leaves kind maximum message old new (inr cleared) = no_reply_left old new (record { nothing = cleared.1.nothing; fault = kind; kept_is = cleared.0.kept_is })

  -- its reply was taken
  pub taken_leaves : (old new : Standing L) → IsFrameTaken (frame_maximum old.connection.stream_description) (state old.link) (state new.link) new.buffer → LeavesInBuffer state old new
  taken_leaves old new t = last_left old new (record { front = []; frame = t.frame; parts = t.parts; holds = t.holds; within = t.within; taken = t.taken })

  -- ---- one call after the other, which does nothing over a fault that the first left

  module _ (old middle new : Standing L) (rest : KeepsRest old.connection middle.connection)
      (untouched : (kind : ErrorKind) → kept_fault middle.connection ≡ Some kind → (new.link ≡ middle.link) × (new.id ≡ middle.id) × (new.buffer ≡ middle.buffer) × (kept_fault new.connection ≡ Some kind)) where
    still_no_reply : HoldsNoReply middle.connection middle.buffer → LeavesInBuffer state old new
    still_no_reply n = let still = untouched n.fault n.kept_is in no_reply_left old new (record { nothing = subst HoldsNothing (sym still.2) n.nothing; fault = n.fault; kept_is = still.3 })

    -- the second took nothing
    first_left : new.buffer ≡ middle.buffer → Keeps (state middle.link).left (state new.link).left → LeavesInBuffer state old middle → LeavesInBuffer state old new
    first_left buffer kept first =
        elim first.left [
          | inl same ↦ as_it_was old new (buffer ∙ same.0) (Keeps-trans (state old.link).left (state middle.link).left (state new.link).left same.1 kept)
          | inr other ↦ elim other [
            | inl none ↦ still_no_reply none
            | inr last ↦ last_left old new (record {
              front = last.front;
              frame = last.frame;
              parts = last.parts;
              holds = subst (HoldsFrame last.frame last.parts) (sym buffer) last.holds;
              within = last.within;
              taken = Consumes-kept (state old.link).left (state middle.link).left (state new.link).left (last.front ++ last.frame) last.taken kept;
            })
          ]
        ]

    -- the second took the last frame
    last_after : (front : List ℕ) (h : HoldsLast (frame_maximum middle.connection.stream_description) (state middle.link) (state new.link) new.buffer) → Consumes (state old.link).left (state new.link).left (front ++ (h.front ++ h.frame)) → LeavesInBuffer state old new
    last_after front h taken = last_left old new (record {
      front = front ++ h.front;
      frame = h.frame;
      parts = h.parts;
      holds = h.holds;
      within = subst (λ m. pos (length h.frame) ≤ℤ m) (ap frame_maximum rest.description) h.within;
      taken = subst (Consumes (state old.link).left (state new.link).left) (sym (append_assoc front h.front h.frame)) taken;
    })

    second_left : HoldsLast (frame_maximum middle.connection.stream_description) (state middle.link) (state new.link) new.buffer → LeavesInBuffer state old middle → LeavesInBuffer state old new
    second_left h first =
        elim first.left [
          | inl same ↦ last_after [] h (kept_consumed (state old.link).left (state middle.link).left (state new.link).left (h.front ++ h.frame) same.1 h.taken)
          | inr other ↦ elim other [
            | inl none ↦ still_no_reply none
            | inr last ↦ last_after (last.front ++ last.frame) h (Consumes-trans (state old.link).left (state middle.link).left (state new.link).left (last.front ++ last.frame) (h.front ++ h.frame) last.taken h.taken)
          ]
        ]

    both_left : LeavesInBuffer state old middle → LeavesInBuffer state middle new → LeavesInBuffer state old new
    both_left first second =
        elim second.left [ inl same ↦ first_left same.0 same.1 first | inr other ↦ elim other [ inl none ↦ no_reply_left old new none | inr last ↦ second_left last first ] ]

-- by a plan each
pub leaves_both : {L T U A B : Type 0} {state : L → State} {given more : List Given} {plan : Plan A} {other : Plan B} {r : Result T Error} {s : Result U Error} {old middle new : Standing L} → StopsBy given state plan r old middle → StopsBy more state other s middle new → LeavesInBuffer state old new
leaves_both {state = state} {old = old} {middle = middle} {new = new} first second = both_left state old middle new first.rest second.untouched first.leaves second.leaves
