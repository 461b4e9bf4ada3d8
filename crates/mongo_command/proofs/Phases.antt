-- What the two phases of an exchange answer, from what writing and reading a message do.
use Rattle.std.proofs.Common.{arith, ◌≡◌, ℕ, ℤ, ◌≤◌, ◌%◌, bit_and, IfSome, ◌∙◌, refl, ap, subst, sym, inl, inr, None, Some, Result, Ok, Err, List, length, IfOk, IfErr, OnOk, unwrap_or}
use Rattle.mongo_bson.specs.Framed.{maximum_length}
use Rattle.mongo_wire.specs.Frame.{known_flags}
use Rattle.std.specs.Prelude.{⊤}
use Rattle.mongo_wire.specs.declared.error.Error.{Error}
use Rattle.mongo_wire.specs.declared.error.ErrorKind.{ErrorKind}
use Rattle.mongo_wire.specs.declared.error.ErrorKind.TheVariants.{InvalidArgument, WriteFault, OutOfMemory}
use Rattle.mongo_wire.specs.declared.fault.ArgumentFault.{ArgumentFault}
use Rattle.mongo_wire.specs.declared.fault.ArgumentFault.TheVariants.{Bson}
use Rattle.mongo_bson.specs.declared.fault.BsonFault.TheVariants.{TooLong}
use Rattle.mongo_wire.specs.declared.message.Message.{Message}
use Rattle.std.specs.Io.KnownBytes.{Appends}
use Rattle.mongo_wire.specs.Outside.{State, Unread, Unwritten, AppendsFront}
use Rattle.mongo_wire.specs.Message.{TellsChecksum, IsRead, ReadRefused, WriteCut, WriteRefused, Writes, IsFrameOf, written_frame, id_of, id_after, parts_of}
use Rattle.mongo_wire.specs.Buffer.{IsFrameTaken, HoldsFrame, UsesMemory, held_bytes, held_document, document_at}
use Rattle.mongo_wire.specs.Frame.{Frame}
use Rattle.mongo_wire.specs.declared.fault.FrameFault.{FrameFault}
use Rattle.mongo_wire.specs.Error.{kind_of_frame_fault}
use Rattle.mongo_wire.specs.declared.frame_buffer.FrameBuffer.{FrameBuffer}
use Rattle.mongo_command.specs.Exchange.{Cut, Sends, SendRefused, sent_fault, Receives, ReceiveRefused, point}

cut_of : (kind : ErrorKind) (maximum : ℤ) (m : Message) (old new : State) (before after : ℤ) → m.request_id ≡ None → Unread old new → WriteCut maximum m old new before after → Cut kind maximum m (point old before) (point new after) (Some kind)
cut_of kind maximum m old new before after none unread w = record {
  fits = w.fits;
  front = subst (λ id. AppendsFront old.written new.written (written_frame id m)) (ap (λ o. unwrap_or o before) none) w.front;
  unread = unread.left;
  reads = unread.reads;
  ends = unread.ends;
  drawn = w.drawn ∙ ap (λ o. id_after o before) none;
  kept_is = refl;
}

refused_kind : (kind : ErrorKind) (maximum : ℤ) (m : Message) (old new : State) (before after : ℤ) → m.request_id ≡ None → length m.document_payload ≤ maximum_length → Unread old new → ((fault : ArgumentFault) → kind ≡ InvalidArgument fault → new ≡ old) → WriteRefused kind maximum m old new before after → SendRefused kind maximum m (point old before) (point new after) (sent_fault kind)
refused_kind (InvalidArgument (Bson TooLong)) maximum m old new before after none short unread same w = absurd w.0
refused_kind (InvalidArgument fault) maximum m old new before after none short unread same w = (short, w.0, record { link = same fault refl; ids = w.2; kept_is = refl })
refused_kind WriteFault maximum m old new before after none short unread same w = (w.0, cut_of WriteFault maximum m old new before after none unread w.1)
refused_kind OutOfMemory maximum m old new before after none short unread same w = inr (w.0, cut_of OutOfMemory maximum m old new before after none unread w.1)
refused_kind kind maximum m old new before after none short unread same w = absurd w

pub send_refused : {L : Type 0} (state : L → State) (l l' : L) (r : Result ⊤ Error) (maximum : ℤ) (m : Message) (before after : ℤ) → m.request_id ≡ None → length m.document_payload ≤ maximum_length → Unread (state l) (state l') → ((fault : ArgumentFault) → IfErr r (λ e. e.kind ≡ InvalidArgument fault → l' ≡ l)) → IfErr r (λ e. WriteRefused e.kind maximum m (state l) (state l') before after) → IfErr r (λ e. SendRefused e.kind maximum m (point (state l) before) (point (state l') after) (sent_fault e.kind))
send_refused state l l' (Ok x) maximum m before after none short unread same w = tt
send_refused state l l' (Err e) maximum m before after none short unread same w = refused_kind e.kind maximum m (state l) (state l') before after none short unread (λ fault is. ap state (same fault is)) w

tells : (m : Message) → m.checksum ≡ None → TellsChecksum m
tells m p = subst (λ c. IfSome c (λ sum. bit_and m.flags.0 known_flags % 2 ≡ 1)) (sym p) tt

pub sent : (r : Result ⊤ Error) (maximum : ℤ) (m : Message) (old new : State) (before after : ℤ) → m.request_id ≡ None → m.checksum ≡ None → Unread old new → OnOk r (Writes maximum m old new before after) → OnOk r (TellsChecksum m → IsFrameOf (id_of m before) m (written_frame (id_of m before) m)) → OnOk r (Sends maximum m (point old before) (point new after))
sent (Ok x) maximum m old new before after none unsummed unread w frame =
    let id_is : id_of m before ≡ before = ap (λ o. unwrap_or o before) none in
    record {
      fits = w.fits;
      written = subst (λ id. Appends old.written new.written (written_frame id m)) id_is w.appended;
      frame = subst (λ id. IsFrameOf id m (written_frame id m)) id_is (frame (tells m unsummed));
      flushed = w.flushed_is;
      unread = unread.left;
      reads = unread.reads;
      ends = unread.ends;
      writes = w.writes;
      drawn = w.drawn ∙ ap (λ o. id_after o before) none;
    }
sent (Err e) maximum m old new before after none unsummed unread w frame = tt

pub received : (r : Result Message Error) (maximum : ℤ) (old new : State) → Unwritten old new → IfOk r (IsRead maximum old new) → IfOk r (λ m. Receives maximum old new m.document_payload)
received (Ok m) maximum old new unwritten read = record { unwritten = unwritten; frame = read.frame; parts = parts_of read.id m; is_frame = read.is_frame; within = read.within; taken = read.taken; unstopped = read.unstopped; document_is = refl }
received (Err e) maximum old new unwritten read = tt

-- the document of a buffer is the body of the frame that it holds
pub document_held : (frame : List ℕ) (parts : Frame) (buffer : FrameBuffer) → HoldsFrame frame parts buffer → held_document buffer ≡ parts.body
document_held frame parts buffer h =
    ap (λ last. document_at last (held_bytes buffer)) h.last_is
    ∙ ap (document_at (Some h.held)) h.bytes_are
    ∙ h.is_held.body_at.is

pub received_into : (maximum : ℤ) (old new : State) (buffer : FrameBuffer) → Unwritten old new → IsFrameTaken maximum old new buffer → Receives maximum old new (held_document buffer)
received_into maximum old new buffer unwritten t = record {
  unwritten = unwritten;
  frame = t.frame;
  parts = t.parts;
  is_frame = t.holds.is_held.is_frame;
  within = t.within;
  taken = t.taken;
  unstopped = t.unstopped;
  document_is = document_held t.frame t.parts buffer t.holds;
}

pub receive_refused : {T : Type 0} (r : Result T Error) (maximum : ℤ) (old new : State) → Unwritten old new → IfErr r (λ e. ReadRefused e.kind maximum old new) → IfErr r (λ e. ReceiveRefused e.kind maximum old new)
receive_refused (Ok m) maximum old new unwritten refused = tt
receive_refused (Err e) maximum old new unwritten refused = record { refused = refused; unwritten = unwritten }

pub fault_refused : (fault : FrameFault) (e : Error) (maximum : ℤ) (old new : State) → Unwritten old new → e.kind ≡ kind_of_frame_fault fault → ReadRefused (kind_of_frame_fault fault) maximum old new → ReceiveRefused e.kind maximum old new
fault_refused fault e maximum old new unwritten is refused = subst (λ kind. ReceiveRefused kind maximum old new) (sym is) (record { refused = refused; unwritten = unwritten })

-- ---- a buffer's memory

-- nothing was read before
pub uses_later : (maximum : ℤ) (old middle new : State) (first last : FrameBuffer) → middle.left ≡ old.left → UsesMemory maximum middle new first last → UsesMemory maximum old new first last
uses_later maximum old middle new first last unread uses = record { came = λ had left had_is left_is. uses.came had left (unread ∙ had_is) left_is; within = uses.within; keeps = uses.keeps }

-- nothing was read at all
pub uses_none : (maximum : ℤ) (old new : State) (buffer : FrameBuffer) → UsesMemory maximum old new buffer buffer
uses_none maximum old new buffer = record { came = λ had left had_is left_is. omega arith; within = inl (omega arith); keeps = omega arith }
