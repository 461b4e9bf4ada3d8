-- The frames that replies go out in.
use Rattle.std.specs.Prelude.{◌≡◌, ℕ, ℤ, pos, ◌+◌, ◌≤◌, ◌<ℤ◌, ◌⊎◌, None, List, [], ◌∷◌, ◌++◌, length, take, bit_and, IfSome}
use Rattle.std.specs.Int.{to_le_bytes, w64}
use Rattle.std.specs.Io.KnownBytes.{Appends}
use Rattle.mongo_wire.specs.Bytes.{next_id}
use Rattle.mongo_wire.specs.Frame.{Frame, IsFrame, IsFrameWith, int32, message_code, more_to_come_bit, uint32}
use Rattle.mongo_wire.specs.Header.{header_bytes, signed_at}
use Rattle.mongo_wire.specs.Outside.{State, AppendsFront, IsFlushed, Rose}
use Rattle.mongo_wire.specs.declared.header.Header.{Header}
use Rattle.mongo_wire.specs.declared.op_code.OpCode.TheVariants.{Reply as OpReply}
use Rattle.mongo_service.specs.declared.fault.ServeFault.{ServeFault}
use Rattle.mongo_service.specs.declared.fault.ServeFault.TheVariants.{WriteFault, ReplyTooLong, OutOfMemory}
use Rattle.mongo_session.specs.declared.reply.Reply.{Reply}
use Rattle.mongo_server.specs.Announced.{maximum_message_length}
use Rattle.mongo_session.specs.Replies.{document_of_served}

-- MORE_TO_COME is set
abbrev pub WantsNone : ℕ → Type 0
WantsNone flags = bit_and flags more_to_come_bit ≡ more_to_come_bit

-- the bytes of a reply in an OP_MSG, to the request of this id: no flags, and its document alone
abbrev pub message_reply : ℤ → ℤ → List ℕ → List ℕ
message_reply id to document = uint32 (21 + length document) ++ (int32 id ++ (int32 to ++ (uint32 message_code ++ (uint32 0 ++ (0 ∷ document)))))

-- these bytes, which are a frame of the grammar: no flags, no sequences and no checksum
pub record IsReplyFrame (sent : List ℕ) (id to : ℤ) (document : List ℕ) : Type 0 where
  pub framed : IsFrameWith sent (record { request_id = id; response_to = to; flags = 0; body = document; sequences = []; checksum = None }) 0
  pub spelled : sent ≡ message_reply id to document

-- the header of an OP_REPLY whose document has this length
abbrev pub query_header : ℤ → ℤ → ℕ → Header
query_header id to size = record { length = pos (36 + size); request_id = id; response_to = to; op_code = OpReply }

-- what an OP_REPLY has between its header and its document: responseFlags 8, which is AwaitCapable, cursorID 0, startingFrom 0,
-- numberReturned 1
abbrev pub query_fields : List ℕ
query_fields = int32 (pos 8) ++ (to_le_bytes w64 0 ++ (int32 (pos 0) ++ int32 (pos 1)))

-- a reply in an OP_REPLY
abbrev pub query_reply : ℤ → ℤ → List ℕ → List ℕ
query_reply id to document = header_bytes (query_header id to (length document)) ++ (query_fields ++ document)

-- ---- what answers a frame, where the next reply has this id, and the one after it that

-- what is sent to an OP_MSG of this id and these flags: a reply, or nothing exactly where the client says that it sends more
abbrev pub IsAnswerTo : ℤ → ℕ → Reply → ℤ → ℤ → List ℕ → Type 0
IsAnswerTo to flags reply id later sent =
    (WantsNone flags × (sent ≡ []) × (later ≡ id)) ⊎ ((WantsNone flags → ⊥) × IsReplyFrame sent id to (document_of_served reply) × (later ≡ next_id id))

-- what answers an OP_MSG of this document
pub record AnswersMessage (frame : List ℕ) (document : List ℕ) (reply : Reply) (id later : ℤ) (sent : List ℕ) : Type 0 where
  pub parts : Frame
  pub is_frame : IsFrame frame parts
  pub body_is : parts.body ≡ document
  pub answer : IsAnswerTo parts.request_id parts.flags reply id later sent

-- what answers an OP_QUERY: its header has the id
abbrev pub AnswersQuery : List ℕ → Reply → ℤ → ℤ → List ℕ → Type 0
AnswersQuery frame reply id later sent = (sent ≡ query_reply id (signed_at 4 (take 16 frame)) (document_of_served reply)) × (later ≡ next_id id)

-- some front of the bytes
abbrev pub IsFrontOf : List ℕ → List ℕ → Type 0
IsFrontOf front bytes = (n : ℕ) × (front ≡ take n bytes)

-- a front of what answers an OP_MSG
pub record CutsMessage (frame : List ℕ) (document : List ℕ) (reply : Reply) (id : ℤ) (sent : List ℕ) : Type 0 where
  pub parts : Frame
  pub is_frame : IsFrame frame parts
  pub body_is : parts.body ≡ document
  pub wanted : WantsNone parts.flags → ⊥
  pub front : IsFrontOf sent (message_reply id parts.request_id (document_of_served reply))

-- a front of what answers an OP_QUERY
abbrev pub CutsQuery : List ℕ → Reply → ℤ → List ℕ → Type 0
CutsQuery frame reply id sent = IsFrontOf sent (query_reply id (signed_at 4 (take 16 frame)) (document_of_served reply))

-- ---- a write

-- where replies go out: the sink, and the id of the next
pub record Outbox : Type 0 where
  pub state : State
  pub id : ℤ

abbrev pub outbox : State → ℤ → Outbox
outbox state id = record { state = state; id = id }

-- what was sent is flushed, where anything was
abbrev pub HasFlushed : State → State → List ℕ → Type 0
HasFlushed old new sent = (sent ≡ []) ⊎ IfSome old.written (λ before. length before + length sent ≤ new.flushed)

-- a document was sent as a reply to the request of this id, and flushed
pub record SendsReply (old new : Outbox) (to : ℤ) (document : List ℕ) : Type 0 where
  pub sent : List ℕ
  pub is_reply : IsReplyFrame sent old.id to document
  pub appended : Appends old.state.written new.state.written sent
  pub flushed : IsFlushed new.state
  pub drawn : new.id ≡ next_id old.id

-- an OP_MSG was answered, and the reply flushed
pub record IsReplySent (old new : Outbox) (to : ℤ) (flags : ℕ) (reply : Reply) : Type 0 where
  pub sent : List ℕ
  pub is_answer : IsAnswerTo to flags reply old.id new.id sent
  pub appended : Appends old.state.written new.state.written sent
  pub flushed : HasFlushed old.state new.state sent

-- an answer to an OP_MSG was cut: a front of it is written, if any
pub record IsSentInPart (old new : Outbox) (to : ℤ) (flags : ℕ) (reply : Reply) : Type 0 where
  pub wanted : WantsNone flags → ⊥
  pub front : AppendsFront old.state.written new.state.written (message_reply old.id to (document_of_served reply))

-- an OP_QUERY was answered, and the reply flushed
pub record IsSentToQuery (old new : Outbox) (to : ℤ) (reply : Reply) : Type 0 where
  pub appended : Appends old.state.written new.state.written (query_reply old.id to (document_of_served reply))
  pub flushed : IsFlushed new.state
  pub drawn : new.id ≡ next_id old.id

-- ---- why a write was refused

-- an OP_MSG of the document is longer than the greatest frame, which a hello announces
abbrev pub IsLongMessage : List ℕ → Type 0
IsLongMessage document = maximum_message_length <ℤ pos (21 + length document)

-- and so an OP_REPLY
abbrev pub IsLongReply : List ℕ → Type 0
IsLongReply document = maximum_message_length <ℤ pos (36 + length document)

-- The sink failed just where its count rose, and a reply is refused as too long only where it is, before any of it is written.
abbrev pub WriteCause : Type 0 → ServeFault → State → State → Type 0
WriteCause too_long WriteFault old new = Rose old.write_faults new.write_faults
WriteCause too_long ReplyTooLong old new = too_long × (new ≡ old)
WriteCause too_long OutOfMemory old new = new.write_faults ≡ old.write_faults
WriteCause too_long fault old new = ⊥
