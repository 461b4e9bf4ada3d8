-- Replies that are sent, or cut.
use Rattle.std.proofs.Common.{◌≡◌, ℕ, ℤ, ◌+◌, Option, None, Result, Ok, Err, OnOk, OnErr, List, [], ◌∷◌, ◌++◌, length, bit_and, sym, ap, ◌∙◌, subst, inr, append-nil, arith, length-append}
use Rattle.std.proofs.Math.Seq.{take-length}
use Rattle.std.proofs.KnownBytes.{Appends-kept, Appends-nil}
use Rattle.std.specs.Prelude.{⊤}
use Rattle.std.specs.Io.KnownBytes.{Appends, Keeps}
use Rattle.mongo_wire.specs.Frame.{IsFrameWith, int32, known_flags, message_code, uint32}
use Rattle.mongo_wire.specs.Header.{header_bytes}
use Rattle.mongo_wire.specs.Message.{ArgumentRow, IsFrameOf, WriteRefused, id_of, written_frame}
use Rattle.mongo_wire.specs.Outside.{State, AppendsFront, IsFlushed}
use Rattle.mongo_wire.specs.declared.document_sequence.DocumentSequence.{DocumentSequence}
use Rattle.mongo_wire.specs.declared.error.ErrorKind.{ErrorKind}
use Rattle.mongo_wire.specs.declared.error.ErrorKind.TheVariants.{InvalidArgument, WriteFault, OutOfMemory}
use Rattle.mongo_wire.specs.declared.header.Header.{Header}
use Rattle.mongo_wire.specs.declared.message.Message.{Message}
use Rattle.mongo_wire.specs.declared.message_flags.MessageFlags.{MessageFlags}
use Rattle.mongo_service.specs.declared.fault.ServeFault.{ServeFault}
use Rattle.mongo_session.specs.declared.reply.Reply.{Reply}
use Rattle.mongo_wire.specs.Bytes.{next_id}
use Rattle.mongo_wire.specs.declared.fault.ArgumentFault.{ArgumentFault}
use Rattle.mongo_wire.specs.declared.fault.ArgumentFault.TheVariants.{IdentifierHasZero, SequenceTooLong, MaximumNegative, TooLong}
use Rattle.std.proofs.lemmas.Int.{ints}
use Rattle.mongo_service.specs.Faults.{fault_of_kind, IsOfWriting}
use Rattle.mongo_server.specs.Announced.{maximum_message_length}
use Rattle.mongo_session.specs.Replies.{document_of_served}
use Rattle.mongo_service.specs.Sent.{IsLongMessage, message_reply, query_fields, query_header, query_reply, IsReplyFrame, IsReplySent, IsSentInPart, IsSentToQuery, Outbox, SendsReply, WantsNone, WriteCause}
use Rattle.mongo_service.proofs.Lasts.{sent_flushed}

pub message_framed : (document : List ℕ) (sequences : List DocumentSequence) (id to : ℤ) (flags : MessageFlags) (frame : List ℕ) → sequences ≡ [] → flags.0 ≡ 0
    → IsFrameOf id (record { document_payload = document; document_sequences = sequences; response_to = to; flags = flags; checksum = None; request_id = None }) frame
    → IsFrameWith frame (record { request_id = id; response_to = to; flags = 0; body = document; sequences = []; checksum = None }) 0
message_framed document sequences id to flags frame none clear h =
    let a = subst (λ s. IsFrameWith frame (record { request_id = id; response_to = to; flags = bit_and flags.0 known_flags; body = document; sequences = s; checksum = None }) (bit_and flags.0 known_flags)) none h in
    subst (λ f. IsFrameWith frame (record { request_id = id; response_to = to; flags = bit_and f known_flags; body = document; sequences = []; checksum = None }) (bit_and f known_flags)) clear a

-- ---- the bytes of a message that has its document alone

-- a frame of these flags and this content
abbrev framed : ℤ → ℤ → ℕ → List ℕ → List ℕ
framed id to flags content = uint32 (20 + length content) ++ (int32 id ++ (int32 to ++ (uint32 message_code ++ (uint32 (bit_and flags known_flags) ++ content))))

spelled_alone : (document : List ℕ) (id to : ℤ) (flags : ℕ) → flags ≡ 0 → framed id to flags (((0 ∷ document) ++ []) ++ []) ≡ message_reply id to document
spelled_alone document id to flags clear =
    let content : ((0 ∷ document) ++ []) ++ [] ≡ 0 ∷ document = append-nil ((0 ∷ document) ++ []) ∙ append-nil (0 ∷ document) in
    let counted : 20 + length (0 ∷ document) ≡ 21 + length document = omega arith in
    ap (framed id to flags) content ∙ ap (λ f. framed id to f (0 ∷ document)) clear ∙ ap (λ n. uint32 n ++ (int32 id ++ (int32 to ++ (uint32 message_code ++ (uint32 0 ++ (0 ∷ document)))))) counted

pub message_spelled : (document : List ℕ) (sequences : List DocumentSequence) (id to : ℤ) (flags : MessageFlags) → sequences ≡ [] → flags.0 ≡ 0
    → written_frame id (record { document_payload = document; document_sequences = sequences; response_to = to; flags = flags; checksum = None; request_id = None }) ≡ message_reply id to document
message_spelled document sequences id to flags none clear =
    subst (λ s. written_frame id (record { document_payload = document; document_sequences = s; response_to = to; flags = flags; checksum = None; request_id = None }) ≡ message_reply id to document) (sym none)
    (spelled_alone document id to flags.0 clear)

-- ---- a write that was refused

-- all of the bytes are a front of them
pub front_written : (old mid new : Option (List ℕ)) (bytes : List ℕ) → Appends old mid bytes → Keeps mid new → AppendsFront old new bytes
front_written old mid new bytes appended kept = (length bytes, subst (Appends old new) (sym (take-length bytes)) (Appends-kept old mid new bytes appended kept))

pub nothing_written : (old : Option (List ℕ)) (bytes : List ℕ) → AppendsFront old old bytes
nothing_written old bytes = (0, Appends-nil old)

-- a front of the frame was written
pub refused_front : (kind : ErrorKind) (maximum : ℤ) (m : Message) (old new : State) (before after : ℤ) → WriteRefused kind maximum m old new before after → AppendsFront old.written new.written (written_frame (id_of m before) m)
refused_front (InvalidArgument fault) maximum m old new before after h = subst (λ state. AppendsFront old.written state.written (written_frame (id_of m before) m)) (sym h.1) (nothing_written old.written (written_frame (id_of m before) m))
refused_front WriteFault maximum m old new before after h = h.1.front
refused_front OutOfMemory maximum m old new before after h = h.1.front
refused_front kind maximum m old new before after h = absurd h

pub is_of_writing : (kind : ErrorKind) (maximum : ℤ) (m : Message) (old new : State) (before after : ℤ) → WriteRefused kind maximum m old new before after → IsOfWriting kind
is_of_writing (InvalidArgument fault) maximum m old new before after h = tt
is_of_writing WriteFault maximum m old new before after h = tt
is_of_writing OutOfMemory maximum m old new before after h = tt
is_of_writing kind maximum m old new before after h = absurd h

-- a message that has its document alone is refused only where it is too long
long_alone : (document : List ℕ) (to : ℤ) (flags : MessageFlags) (fault : ArgumentFault)
    → ArgumentRow fault maximum_message_length (record { document_payload = document; document_sequences = []; response_to = to; flags = flags; checksum = None; request_id = None }) → IsLongMessage document
long_alone document to flags IdentifierHasZero row = absurd (row tt)
long_alone document to flags SequenceTooLong row = absurd (row.1 tt)
long_alone document to flags MaximumNegative row = omega (arith, ints, row.2)
long_alone document to flags TooLong row = omega (arith, ints, row.3, length-append ((0 ∷ document) ++ []) [], length-append (0 ∷ document) [])
long_alone document to flags fault row = absurd row

pub long_message : (document : List ℕ) (sequences : List DocumentSequence) (to : ℤ) (flags : MessageFlags) → sequences ≡ [] → (fault : ArgumentFault)
    → ArgumentRow fault maximum_message_length (record { document_payload = document; document_sequences = sequences; response_to = to; flags = flags; checksum = None; request_id = None }) → IsLongMessage document
long_message document sequences to flags none fault row =
    long_alone document to flags fault (subst (λ s. ArgumentRow fault maximum_message_length (record { document_payload = document; document_sequences = s; response_to = to; flags = flags; checksum = None; request_id = None })) none row)

pub refused_cause : (too_long : Type 0) (kind : ErrorKind) (maximum : ℤ) (m : Message) (old new : State) (before after : ℤ) → ((fault : ArgumentFault) → ArgumentRow fault maximum m → too_long) → WriteRefused kind maximum m old new before after → WriteCause too_long (fault_of_kind kind) old new
refused_cause too_long (InvalidArgument fault) maximum m old new before after long h = (long fault h.0, h.1)
refused_cause too_long WriteFault maximum m old new before after long h = h.0
refused_cause too_long OutOfMemory maximum m old new before after long h = h.0
refused_cause too_long kind maximum m old new before after long h = absurd h

-- ---- an OP_MSG was answered

pub reply_sent : (old new : Outbox) (to : ℤ) (flags : ℕ) (reply : Reply) (document : List ℕ) (r : Result ⊤ ServeFault) → document ≡ document_of_served reply → (WantsNone flags → ⊥) → OnOk r (SendsReply old new to document)
    → OnOk r (IsReplySent old new to flags reply)
reply_sent old new to flags reply document (Err fault) is wanted h = tt
reply_sent old new to flags reply document (Ok done) is wanted h = record {
  sent = h.sent;
  is_answer = inr (wanted, subst (λ d. IsReplyFrame h.sent old.id to d) is h.is_reply, h.drawn);
  appended = h.appended;
  flushed = sent_flushed old.state new.state h.sent h.appended h.flushed;
}

pub reply_cut : (old new : Outbox) (to : ℤ) (flags : ℕ) (reply : Reply) (document : List ℕ) (r : Result ⊤ ServeFault) → document ≡ document_of_served reply → (WantsNone flags → ⊥)
    → OnErr r (AppendsFront old.state.written new.state.written (message_reply old.id to document)) → OnErr r (IsSentInPart old new to flags reply)
reply_cut old new to flags reply document (Ok done) is wanted h = tt
reply_cut old new to flags reply document (Err fault) is wanted h = record { wanted = wanted; front = subst (λ d. AppendsFront old.state.written new.state.written (message_reply old.id to d)) is h }

-- ---- an OP_QUERY was answered

-- the parts of a reply's frame, put after one another
pub query_framed : (header : Header) (id to : ℤ) (document : List ℕ) → header ≡ query_header id to (length document)
    → (header_bytes header ++ query_fields) ++ document ≡ query_reply id to document
query_framed header id to document same = ap (λ h. header_bytes h ++ (query_fields ++ document)) same

-- the ids of a reply's frame, which are spelled in two ways
pub query_numbered : (frame document : List ℕ) (i id t to : ℤ) → frame ≡ query_reply i t document → i ≡ id → t ≡ to → frame ≡ query_reply id to document
query_numbered frame document i id t to is same other = is ∙ ap (λ n. query_reply n t document) same ∙ ap (λ n. query_reply id n document) other

pub query_sent : (old new : Outbox) (to : ℤ) (reply : Reply) (document frame bytes : List ℕ) (r : Result ⊤ ServeFault) → document ≡ document_of_served reply → frame ≡ query_reply old.id to document → bytes ≡ frame → new.id ≡ next_id old.id
    → OnOk r (Appends old.state.written new.state.written bytes) → OnOk r (IsFlushed new.state) → OnOk r (IsSentToQuery old new to reply)
query_sent old new to reply document frame bytes (Err fault) p q s drawn a f = tt
query_sent old new to reply document frame bytes (Ok done) p q s drawn a f =
    record { appended = subst (Appends old.state.written new.state.written) (s ∙ q ∙ ap (query_reply old.id to) p) a; flushed = f; drawn = drawn }

pub query_front : (old new : State) (to id : ℤ) (reply : Reply) (document frame bytes : List ℕ) (r : Result ⊤ ServeFault) → document ≡ document_of_served reply → frame ≡ query_reply id to document → bytes ≡ frame
    → OnErr r (AppendsFront old.written new.written bytes) → OnErr r (AppendsFront old.written new.written (query_reply id to (document_of_served reply)))
query_front old new to id reply document frame bytes (Ok done) p q s a = tt
query_front old new to id reply document frame bytes (Err fault) p q s a = subst (AppendsFront old.written new.written) (s ∙ q ∙ ap (query_reply id to) p) a
