-- What a login answers, and what it leaves of its connection, its link, its ids and its buffer: the same for every mechanism.
use Rattle.std.specs.Prelude.{◌≡◌, ℕ, ℤ, pos, ◌≤ℤ◌, ◌⊎◌, Result, None, Some, List, [], ◌++◌, length, IfErr, OnOk}
use Rattle.std.specs.Io.KnownBytes.{Keeps, Consumes}
use Rattle.mongo_wire.specs.declared.error.Error.{Error}
use Rattle.mongo_wire.specs.declared.error.ErrorKind.{ErrorKind}
use Rattle.mongo_wire.specs.declared.error.ErrorKind.TheVariants.{OutOfMemory}
use Rattle.mongo_wire.specs.declared.frame_buffer.FrameBuffer.{FrameBuffer}
use Rattle.mongo_wire.specs.Bytes.{next_id}
use Rattle.mongo_wire.specs.Buffer.{frames_taken, held_document, HoldsFrame, HoldsNothing, IsFrameTaken}
use Rattle.mongo_wire.specs.Frame.{Frame}
use Rattle.mongo_wire.specs.Outside.{State, Unfailed, risen}
use Rattle.mongo_command.specs.declared.connection.Connection.{Connection}
use Rattle.mongo_command.specs.Connection.{kept_fault, KeepsRest}
use Rattle.mongo_command.specs.Conversation.{Said, Turn, ends, Plan, ReachedGiven, StoppedGiven, LeadsGiven}
use Rattle.mongo_command.specs.Exchange.{frame_maximum, CountsStay, Point, point}
use Rattle.mongo_command.specs.Helper.{Given}
use Rattle.mongo_sasl.specs.Stops.{BeginsWithCommand, RefusedAtOnce}
use Rattle.mongo_sasl.specs.Login.{HasLogin, AnswersLed, EndsByReply}

-- what a call stands on: its connection, its link, the next id, and the buffer that its replies pass through
pub record Standing (L : Type 0) : Type 0 where
  pub connection : Connection
  pub link : L
  pub id : ℤ
  pub buffer : FrameBuffer

abbrev pub standing : {L : Type 0} → Connection → L → ℤ → FrameBuffer → Standing L
standing connection link id buffer = record { connection = connection; link = link; id = id; buffer = buffer }

-- the point of a conversation that it stands at
abbrev pub point_at : {L : Type 0} → (L → State) → Standing L → Point
point_at state at = point (state at.link) at.id

-- At most one id was drawn: none, and then nothing was sent and the buffer is what it was, or the next one.
pub record DrawsOnce {L : Type 0} (old new : Standing L) : Type 0 where
  pub drawn : ((new.id ≡ old.id) × (new.buffer ≡ old.buffer)) ⊎ (new.id ≡ next_id old.id)

-- The buffer holds the last frame that was taken of the bytes left, which is within the maximum.
pub record HoldsLast (maximum : ℤ) (old new : State) (buffer : FrameBuffer) : Type 0 where
  pub front : List ℕ
  pub frame : List ℕ
  pub parts : Frame
  pub holds : HoldsFrame frame parts buffer
  pub within : pos (length frame) ≤ℤ maximum
  pub taken : Consumes old.left new.left (front ++ frame)

-- The buffer holds nothing, since a command that was sent found no reply; the connection keeps why.
pub record HoldsNoReply (connection : Connection) (buffer : FrameBuffer) : Type 0 where
  pub nothing : HoldsNothing buffer
  pub fault : ErrorKind
  pub kept_is : kept_fault connection ≡ Some fault

-- What a call leaves in its buffer: what was there, and then it took nothing of the bytes left; or nothing, where no reply
-- came; or the last frame that it took.
pub record LeavesInBuffer {L : Type 0} (state : L → State) (old new : Standing L) : Type 0 where
  pub left : ((new.buffer ≡ old.buffer) × Keeps (state old.link).left (state new.link).left)
      ⊎ HoldsNoReply new.connection new.buffer
      ⊎ HoldsLast (frame_maximum old.connection.stream_description) (state old.link) (state new.link) new.buffer

-- Why a call that goes by a plan is refused, by these answers of a helper, and what it leaves however it ends.
pub record StopsBy {L T A : Type 0} (given : List Given) (state : L → State) (plan : Plan A) (result : Result T Error) (old new : Standing L) : Type 0 where
  -- A refusal says why it comes and what it left: the connection keeps the fault of an exchange that failed, where that left
  -- one, and else none.
  pub refused : kept_fault old.connection ≡ None → IfErr result (λ e. StoppedGiven given plan e.kind (point_at state old) (point_at state new) (kept_fault new.connection))
  -- over a connection that keeps a fault nothing is done
  pub untouched : (kind : ErrorKind) → kept_fault old.connection ≡ Some kind → (new.link ≡ old.link) × (new.id ≡ old.id) × (new.buffer ≡ old.buffer) × (kept_fault new.connection ≡ Some kind)
  -- and a refusal answers that fault in place of the plan's first command, or comes before it
  pub answers : (kind : ErrorKind) → kept_fault old.connection ≡ Some kind → IfErr result (λ e. ((e.kind ≡ kind) × BeginsWithCommand plan) ⊎ RefusedAtOnce plan e.kind)
  -- where no id was drawn, nothing was sent, and the buffer is what it was
  pub buffer : new.id ≡ old.id → new.buffer ≡ old.buffer
  -- it is that too where nothing was taken; else it holds the last frame that was taken, or nothing where no reply came
  pub leaves : LeavesInBuffer state old new
  -- nothing else of the connection changes
  pub rest : KeepsRest old.connection new.connection
  -- what the link tells stays told, and no count falls
  pub counts : CountsStay (state old.link) (state new.link)

-- A login ends as its mechanism's script demands, by these answers of a helper. The script is given twice: as a plan, and as whole
-- lists of answers, commands and replies.
pub record EndsByScript {L A : Type 0} (given : List Given) (state : L → State) (plan : Plan A) (IsLogin : List Given → List (List ℕ) → List (List ℕ) → Type 0) (maximum : ℤ) (result : Result (Unit {0}) Error) (old new : Standing L) : Type 0 where
  -- exactly the script's commands were written and its replies taken
  pub accepted : OnOk result ((answer : A) × ReachedGiven given plan answer (point_at state old) (point_at state new))
  -- an accepted login leaves the connection without a fault
  pub faultless : kept_fault old.connection ≡ None → OnOk result (kept_fault new.connection ≡ None)
  -- over a connection that keeps one, a login is accepted only where its script ends at once, which none does that begins with a
  -- command
  pub at_once : (kind : ErrorKind) → kept_fault old.connection ≡ Some kind → OnOk result ((answer : A) × plan [] (ends answer))
  pub stops : StopsBy given state plan result old new
  -- a login at the front of the bytes left is accepted, unless the link fails or memory runs out
  pub complete : (bytes : List ℕ) → kept_fault old.connection ≡ None → (state old.link).left ≡ Some bytes → HasLogin IsLogin maximum old.id bytes
      → Unfailed (state old.link) (state new.link) → IfErr result (λ e. e.kind ≡ OutOfMemory)
  -- what the bytes left call for is asked and answered, and the link is left as that says
  pub exact : (granted : List Given) (bytes taken unread : List ℕ) (outcome : Turn A) (commands : List Said) → kept_fault old.connection ≡ None → (state old.link).left ≡ Some bytes → LeadsGiven granted plan bytes outcome commands taken unread
      → Unfailed (state old.link) (state new.link) → AnswersLed granted given result outcome commands unread (point_at state old) (point_at state new)

-- The reply of a login's one exchange passed through the buffer, which holds just that.
pub record HoldsItsReply {L A : Type 0} (state : L → State) (plan : Plan A) (answer : A) (maximum : ℤ) (old new : Standing L) : Type 0 where
  pub frames : frames_taken new.buffer ≡ risen (frames_taken old.buffer)
  pub taken : IsFrameTaken maximum (state old.link) (state new.link) new.buffer
  pub reply : EndsByReply plan answer (held_document new.buffer) (point_at state old) (point_at state new)
