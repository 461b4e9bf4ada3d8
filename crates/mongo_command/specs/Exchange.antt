-- One exchange: a command's frame is written and flushed, and one frame is taken.
use Rattle.std.specs.Prelude.{◌≡◌, ℕ, ℤ, pos, ◌<◌, ◌≤◌, ◌≤ℤ◌, ◌⊎◌, Bool, Option, None, Some, List, length, if◌then◌else◌, option_map, is_some, ⊤}
use Rattle.std.specs.Io.KnownBytes.{Appends, Consumes}
use Rattle.mongo_bson.specs.Framed.{maximum_length}
use Rattle.mongo_wire.specs.declared.error.ErrorKind.{ErrorKind}
use Rattle.mongo_wire.specs.declared.error.ErrorKind.TheVariants.{InvalidArgument, WriteFault, OutOfMemory}
use Rattle.mongo_wire.specs.declared.fault.ArgumentFault.TheVariants.{Bson}
use Rattle.mongo_wire.specs.declared.message.Message.{Message}
use Rattle.mongo_wire.specs.Outside.{State, Unwritten, Unstopped, Rose, AppendsFront, IsFlushed}
use Rattle.mongo_wire.specs.Bytes.{next_id}
use Rattle.mongo_wire.specs.Header.{maximum_of}
use Rattle.mongo_wire.specs.declared.frame_buffer.FrameBuffer.{FrameBuffer}
use Rattle.mongo_wire.specs.Frame.{Frame, IsFrame, exhaust_allowed_bit}
use Rattle.mongo_wire.specs.Buffer.{HoldsFrame, IsCleared}
use Rattle.mongo_wire.specs.Message.{ReadRefused, Fits, ArgumentRow, IsFrameOf, written_frame}
use Rattle.mongo_bson.specs.declared.fault.BsonFault.TheVariants.{TooLong}
use Rattle.mongo_command.specs.Command.{command_document}
use Rattle.mongo_command.specs.declared.command.Command.{Command}
use Rattle.mongo_command.specs.declared.stream_description.StreamDescription.{StreamDescription}

-- EXHAUST_ALLOWED, or no flag
abbrev pub exhaust_flag : Bool → ℕ
exhaust_flag allowed = if allowed then exhaust_allowed_bit else 0

-- the message that a command is sent as
abbrev pub command_message : Command → Message
command_message command = record { document_payload = command_document command; document_sequences = command.document_sequences; response_to = pos 0; flags = record { 0 = exhaust_flag command.exhaust_allowed }; checksum = None; request_id = None }

-- the greatest frame: the description's, or the first maximum before there is one
abbrev pub frame_maximum : Option StreamDescription → ℤ
frame_maximum description = maximum_of (option_map (λ d. d.max_message_size_bytes) description)

-- why a document wasn't made: it would be longer than an int32 can say, or memory ran out
abbrev pub DocumentRefused : ErrorKind → List ℕ → Type 0
DocumentRefused (InvalidArgument (Bson TooLong)) document = maximum_length < length document
DocumentRefused OutOfMemory document = ⊤
DocumentRefused kind document = ⊥

-- where an exchange begins, and where it ends: what its link tells, and the next id
pub record Point : Type 0 where
  pub state : State
  pub id : ℤ

abbrev pub point : State → ℤ → Point
point state id = record { state = state; id = id }

-- the frame of the message stands at the end of what was written, all of it is flushed, its id is drawn, and nothing
-- was read. No fault was counted.
pub record Sends (maximum : ℤ) (message : Message) (old new : Point) : Type 0 where
  pub fits : Fits maximum message
  pub written : Appends old.state.written new.state.written (written_frame old.id message)
  pub frame : IsFrameOf old.id message (written_frame old.id message)
  pub flushed : IsFlushed new.state
  pub unread : new.state.left ≡ old.state.left
  pub reads : new.state.read_faults ≡ old.state.read_faults
  pub ends : new.state.ends ≡ old.state.ends
  pub writes : new.state.write_faults ≡ old.state.write_faults
  pub drawn : new.id ≡ next_id old.id

-- One frame within the maximum was taken, of this document, and nothing after it. No fault and no end was counted.
pub record Receives (maximum : ℤ) (old new : State) (document : List ℕ) : Type 0 where
  pub unwritten : Unwritten old new
  pub frame : List ℕ
  pub parts : Frame
  pub is_frame : IsFrame frame parts
  pub within : pos (length frame) ≤ℤ maximum
  pub taken : Consumes old.left new.left frame
  pub unstopped : Unstopped old new
  pub document_is : document ≡ parts.body

-- an exchange: the message is sent, and then one of this document is received
pub record Exchanges (maximum : ℤ) (message : Message) (old new : Point) (document : List ℕ) : Type 0 where
  pub middle : State
  pub sends : Sends maximum message old (point middle new.id)
  pub receives : Receives maximum middle new.state document

-- the buffer holds a frame
abbrev pub HoldsReply : FrameBuffer → Type 0
HoldsReply buffer = (frame : List ℕ) × (parts : Frame) × HoldsFrame frame parts buffer

-- nothing was done
pub record Unsent (old new : Point) (kept : Option ErrorKind) : Type 0 where
  pub link : new.state ≡ old.state
  pub ids : new.id ≡ old.id
  pub kept_is : kept ≡ None

-- the frame was cut by the sink: its id is drawn, a front of it is written, nothing was read, and the fault is kept
pub record Cut (kind : ErrorKind) (maximum : ℤ) (message : Message) (old new : Point) (kept : Option ErrorKind) : Type 0 where
  pub fits : Fits maximum message
  pub front : AppendsFront old.state.written new.state.written (written_frame old.id message)
  pub unread : new.state.left ≡ old.state.left
  pub reads : new.state.read_faults ≡ old.state.read_faults
  pub ends : new.state.ends ≡ old.state.ends
  pub drawn : new.id ≡ next_id old.id
  pub kept_is : kept ≡ Some kind

-- the fault that a refused send leaves to be kept: none where no id was drawn
abbrev pub sent_fault : ErrorKind → Option ErrorKind
sent_fault (InvalidArgument fault) = None
sent_fault kind = Some kind

-- why a message wasn't sent, and what that left; a document that is too long is found before the rest is tested, in the
-- order of writing
abbrev pub SendRefused : ErrorKind → ℤ → Message → Point → Point → Option ErrorKind → Type 0
SendRefused (InvalidArgument (Bson TooLong)) maximum message old new kept = (maximum_length < length message.document_payload) × Unsent old new kept
SendRefused (InvalidArgument fault) maximum message old new kept = (length message.document_payload ≤ maximum_length) × ArgumentRow fault maximum message × Unsent old new kept
SendRefused WriteFault maximum message old new kept = Rose old.state.write_faults new.state.write_faults × Cut WriteFault maximum message old new kept
SendRefused OutOfMemory maximum message old new kept = Unsent old new kept ⊎ ((new.state.write_faults ≡ old.state.write_faults) × Cut OutOfMemory maximum message old new kept)
SendRefused kind maximum message old new kept = ⊥

-- no frame was received: why, and what of the bytes left was taken
pub record ReceiveRefused (kind : ErrorKind) (maximum : ℤ) (old new : State) : Type 0 where
  pub refused : ReadRefused kind maximum old new
  pub unwritten : Unwritten old new

-- the message was sent and no frame was received; the fault is kept
pub record Unanswered (kind : ErrorKind) (maximum : ℤ) (message : Message) (old new : Point) (kept : Option ErrorKind) : Type 0 where
  pub middle : State
  pub sends : Sends maximum message old (point middle new.id)
  pub refused : ReceiveRefused kind maximum middle new.state
  pub kept_is : kept ≡ Some kind

-- Why an exchange was refused, and what it left in the link, the ids and the connection.
abbrev pub ExchangeRefused : ErrorKind → ℤ → Message → Point → Point → Option ErrorKind → Type 0
ExchangeRefused kind maximum message old new kept = SendRefused kind maximum message old new kept ⊎ Unanswered kind maximum message old new kept

-- What a refused exchange leaves of a buffer: what it was where the message wasn't sent, and nothing where it was sent and
-- no frame was received.
abbrev pub BufferRefused : ErrorKind → ℤ → Message → Point → Point → Option ErrorKind → FrameBuffer → FrameBuffer → Type 0
BufferRefused kind maximum message old new kept buffer_old buffer_new =
    (SendRefused kind maximum message old new kept × (buffer_new ≡ buffer_old))
    ⊎ (Unanswered kind maximum message old new kept × IsCleared buffer_old buffer_new)

-- no fault and no end was counted
pub record Uncounted (old new : State) : Type 0 where
  pub reads : new.read_faults ≡ old.read_faults
  pub ends : new.ends ≡ old.ends
  pub writes : new.write_faults ≡ old.write_faults

-- what every exchange keeps: whether the bytes are told, the counts from falling, and what was flushed
pub record CountsStay (old new : State) : Type 0 where
  pub reads : old.read_faults ≤ new.read_faults
  pub ends : old.ends ≤ new.ends
  pub writes : old.write_faults ≤ new.write_faults
  pub told : is_some new.left ≡ is_some old.left
  pub told_written : is_some new.written ≡ is_some old.written
  pub flushed : old.flushed ≤ new.flushed
