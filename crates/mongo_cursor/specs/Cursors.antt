-- The cursors' theorem: what the calls of a cursor write, take and answer, and why they are refused.
use Rattle.std.specs.Prelude.{◌≡◌, ◌≢◌, ◌⊎◌, ◌↔◌, ◌+◌, ◌-◌, ◌<◌, ◌≤◌, ◌==◌, ℕ, ℤ, pos, Bool, true, false, None, Result, Ok, Err, List, [], ◌∷◌, ◌++◌, length, flat_map, sum_by, if◌then◌else◌, IsOk, IfOk, IfErr, OnOk, ⊤}
use Rattle.std.specs.Ordering.{int_eq}
use Rattle.mongo_wire.specs.Outside.{State}
use Rattle.mongo_wire.specs.declared.error.Error.{Error}
use Rattle.mongo_wire.specs.declared.error.ErrorKind.TheVariants.{OutOfMemory}
use Rattle.mongo_command.specs.Connection.{kept_fault, KeepsRest}
use Rattle.mongo_command.specs.Exchange.{Point, Exchanges, CountsStay, command_message}
use Rattle.mongo_command.specs.CommandReply.{IsCommandBody, CommandRefused}
use Rattle.mongo_command.specs.EndsExchange.{Footing}
use Rattle.mongo_command.specs.declared.command.Command.{Command}
use Rattle.mongo_exec.specs.InsertMany.{at}
use Rattle.mongo_cursor.specs.Batch.{first_batch, next_batch, IsBatch, BatchRefused}
use Rattle.mongo_cursor.specs.Commands.{get_more_command, kill_cursors_command}
use Rattle.mongo_cursor.specs.Call.{maximum_at, CallRefused}
use Rattle.mongo_cursor.specs.declared.namespace.Namespace.{Namespace}
use Rattle.mongo_cursor.specs.declared.batch.Batch.{Batch}
use Rattle.mongo_cursor.specs.declared.cursor.Cursor.{Cursor}
use Rattle.mongo_cursor.specs.declared.cursor.Advance.{Advance}
use Rattle.mongo_cursor.specs.declared.cursor.Advance.TheVariants.{Document, Empty, End}
use Rattle.mongo_cursor.specs.declared.cursor_error.CursorError.{CursorError}
use Rattle.mongo_cursor.specs.declared.cursor_error.CursorError.TheVariants.{Wire, Failed}

-- ---- what a cursor holds

-- the documents that were read and not handed out
abbrev pub held : Cursor → List (List ℕ)
held cursor = cursor.held

-- the last id that the server said: 0 where it has closed the cursor
abbrev pub last_id : Cursor → ℤ
last_id cursor = cursor.id

abbrev pub namespace_of : Cursor → Namespace
namespace_of cursor = cursor.namespace

-- an `advance` of it was refused
abbrev pub has_failed : Cursor → Bool
has_failed cursor = cursor.failed

-- the cursor that a batch begins
abbrev pub cursor_of : Batch → Cursor
cursor_of batch = record { id = batch.id; namespace = batch.namespace; held = batch.documents; failed = false }

-- ---- replies one after another, and their batches joined

-- a reply to a getMore and the batch that it holds
pub record Taken : Type 0 where
  pub reply : List ℕ
  pub batch : Batch

-- the batches joined
abbrev pub documents_in : List Taken → List (List ℕ)
documents_in taken = flat_map (λ t. t.batch.documents) taken

-- the last id after these replies
abbrev pub id_after : ℤ → List Taken → ℤ
id_after id [] = id
id_after id (first ∷ more) = id_after first.batch.id more

-- before each of these replies one getMore of the last id was sent, which isn't 0, and nothing else
abbrev pub AreTaken : ℤ → Namespace → ℤ → List Taken → Point → Point → Type 0
AreTaken maximum namespace id [] old new = new ≡ old
AreTaken maximum namespace id (first ∷ more) old new =
    (id ≢ pos 0) × ((between : Point) × Exchanges maximum (command_message (get_more_command namespace id)) old between first.reply × IsBatch next_batch first.reply first.batch × AreTaken maximum namespace first.batch.id more between new)

-- ---- refusals

-- the error is no `Failed`, and this is said of it
abbrev pub IsWire : (Error → Type 0) → CursorError → Type 0
IsWire P (Wire e) = P e
IsWire P Failed = ⊥

-- ---- the first batch

-- the command was sent, and the cursor is that of the batch that the reply holds
pub record Begins (maximum : ℤ) (command : Command) (cursor : Cursor) (old new : Point) : Type 0 where
  pub reply : List ℕ
  pub exchanged : Exchanges maximum (command_message command) old new reply
  pub batch : Batch
  pub is_batch : IsBatch first_batch reply batch
  pub cursor_is : cursor ≡ cursor_of batch

-- How the making of a cursor ends.
pub record EndsNew {L : Type 0} (state : L → State) (command : Command) (result : Result Cursor CursorError) (old new : Footing L) : Type 0 where
  pub begun : IfOk result (λ cursor. Begins (maximum_at old) command cursor (at state old) (at state new))
  pub refused : IfErr result (IsWire (λ e. CallRefused state command (BatchRefused first_batch) e.kind old new))
  pub faultless : OnOk result ((kept_fault old.connection ≡ None) × (kept_fault new.connection ≡ None))
  pub rest : KeepsRest old.connection new.connection
  pub counts : CountsStay (state old.link) (state new.link)

-- ---- one document more

-- the document that is handed out, where one is
abbrev pub handed_out : Advance → List (List ℕ)
handed_out (Document document) = document ∷ []
handed_out Empty = []
handed_out End = []

-- no reply is due where a document is held or the server has closed the cursor, and nothing is done then; else one is taken,
-- over a connection that keeps no fault
abbrev pub TakesDue : {L : Type 0} → (L → State) → Cursor → List Taken → Footing L → Footing L → Type 0
TakesDue state before [] old new = ((0 < length (held before)) ⊎ (last_id before ≡ pos 0)) × (new ≡ old)
TakesDue state before (t ∷ []) old new =
    (held before ≡ []) × AreTaken (maximum_at old) (namespace_of before) (last_id before) (t ∷ []) (at state old) (at state new) × (kept_fault old.connection ≡ None) × (kept_fault new.connection ≡ None)
TakesDue state before taken old new = ⊥

-- the cursor hasn't failed, and is the one before but for what it holds and the id
pub record GoesOn (before after : Cursor) : Type 0 where
  pub before_unfailed : has_failed before ≡ false
  pub after_unfailed : has_failed after ≡ false
  pub namespace : namespace_of after ≡ namespace_of before

pub record Advances {L : Type 0} (state : L → State) (advance : Advance) (before after : Cursor) (old new : Footing L) : Type 0 where
  pub goes_on : GoesOn before after
  pub taken : List Taken
  pub takes : TakesDue state before taken old new
  -- what was held and the batch that was taken are the document handed out and what is held
  pub joined : held before ++ documents_in taken ≡ handed_out advance ++ held after
  pub id : last_id after ≡ id_after (last_id before) taken
  -- all was handed out before, and the last id is 0
  pub end : (advance ≡ End) ↔ ((held before ++ documents_in taken ≡ []) × (last_id after ≡ pos 0))
  -- the batch that was taken is empty, and its id isn't 0
  pub empty : (advance ≡ Empty) ↔ ((t : Taken) × (taken ≡ t ∷ []) × (t.batch.documents ≡ []) × (t.batch.id ≢ pos 0))

-- why it is refused: an earlier one was, and nothing is done; or a reply is due and isn't read
abbrev pub AdvanceRefused : {L : Type 0} → (L → State) → Cursor → Footing L → Footing L → CursorError → Type 0
AdvanceRefused state before old new Failed = (has_failed before ≡ true) × (new ≡ old)
AdvanceRefused state before old new (Wire e) =
    (has_failed before ≡ false) × (held before ≡ []) × (last_id before ≢ pos 0) × CallRefused state (get_more_command (namespace_of before) (last_id before)) (BatchRefused next_batch) e.kind old new

-- How an advance ends.
pub record EndsAdvance {L : Type 0} (state : L → State) (result : Result Advance CursorError) (before after : Cursor) (old new : Footing L) : Type 0 where
  pub advanced : IfOk result (λ advance. Advances state advance before after old new)
  -- a refusal has its cause, and the cursor has failed from then on
  pub refused : IfErr result (λ error. AdvanceRefused state before old new error × (after ≡ record before { failed = true }))
  pub rest : KeepsRest old.connection new.connection
  pub counts : CountsStay (state old.link) (state new.link)

-- ---- all documents

-- an empty batch with which the server hasn't closed the cursor
abbrev pub empty_batch : Taken → ℕ
empty_batch t = if (length t.batch.documents == 0) then (if int_eq t.batch.id (pos 0) then 0 else 1) else 0

-- no reply was taken before it was due: what is held is less than the last batch, or nothing
abbrev pub IsDue : List Taken → List (List ℕ) → Type 0
IsDue [] rest = ⊤
IsDue (last ∷ []) rest = length rest ≤ length last.batch.documents - 1
IsDue (first ∷ (second ∷ more)) rest = IsDue (second ∷ more) rest

-- So many calls of `advance` handed out these documents or answered `Empty`.
pub record ReadsOn (maximum : ℤ) (before after : Cursor) (documents : List (List ℕ)) (calls : ℕ) (old new : Point) : Type 0 where
  pub taken : List Taken
  pub asked : AreTaken maximum (namespace_of before) (last_id before) taken old new
  -- what was held and the batches of the replies are the documents handed out and what is held
  pub joined : held before ++ documents_in taken ≡ documents ++ held after
  pub id : last_id after ≡ id_after (last_id before) taken
  pub due : IsDue taken (held after)
  pub counted : calls ≡ length documents + sum_by empty_batch taken
  pub namespace : namespace_of after ≡ namespace_of before

-- the documents are those at the end of the list
abbrev pub Adds : List (List ℕ) → List (List ℕ) → List (List ℕ) → Type 0
Adds documents before after = after ≡ before ++ documents

-- true: a call after so many answered `End`; false: so many calls were made
abbrev pub ReadsTo : ℤ → ℕ → Bool → Cursor → Cursor → List (List ℕ) → Point → Point → Type 0
ReadsTo maximum most true before after documents old new = (calls : ℕ) × (calls < most) × ReadsOn maximum before after documents calls old new × (held after ≡ []) × (last_id after ≡ pos 0)
ReadsTo maximum most false before after documents old new = ReadsOn maximum before after documents most old new

-- the call after so many was refused
pub record Stops {L : Type 0} (state : L → State) (most : ℕ) (error : CursorError) (before after : Cursor) (documents : List (List ℕ)) (old new : Footing L) : Type 0 where
  pub calls : ℕ
  pub within : calls < most
  pub between : Cursor
  pub middle : Footing L
  pub read : ReadsOn (maximum_at old) before between documents calls (at state old) (at state middle)
  pub refused : AdvanceRefused state between middle new error
  pub after_is : after ≡ record between { failed = true }

-- there was no memory for the last document that was handed out
pub record Loses {L : Type 0} (state : L → State) (most : ℕ) (error : CursorError) (before after : Cursor) (documents : List (List ℕ)) (old new : Footing L) : Type 0 where
  pub calls : ℕ
  pub within : calls ≤ most
  pub lost : List ℕ
  pub read : ReadsOn (maximum_at old) before after (documents ++ lost ∷ []) calls (at state old) (at state new)
  pub memory : IsWire (λ e. e.kind ≡ OutOfMemory) error
  pub unfailed : has_failed after ≡ false

-- How the reading of all documents ends.
pub record EndsReadAll {L : Type 0} (state : L → State) (most : ℕ) (result : Result Bool CursorError) (before after : Cursor) (out_before out_after : List (List ℕ)) (old new : Footing L) : Type 0 where
  pub read : IfOk result (λ ended. (documents : List (List ℕ)) × Adds documents out_before out_after × ReadsTo (maximum_at old) most ended before after documents (at state old) (at state new) × (has_failed after ≡ has_failed before))
  pub refused : IfErr result (λ error. (documents : List (List ℕ)) × Adds documents out_before out_after × (Stops state most error before after documents old new ⊎ Loses state most error before after documents old new))
  pub rest : KeepsRest old.connection new.connection
  pub counts : CountsStay (state old.link) (state new.link)

-- ---- the close

-- the server was asked to close the cursor, and says that it did
pub record Closes (maximum : ℤ) (cursor : Cursor) (old new : Point) : Type 0 where
  pub reply : List ℕ
  pub exchanged : Exchanges maximum (command_message (kill_cursors_command (namespace_of cursor) (last_id cursor))) old new reply
  pub body : IsCommandBody reply

-- How the close of a cursor ends.
pub record EndsClose {L : Type 0} (state : L → State) (cursor : Cursor) (result : Result (Unit {0}) CursorError) (old new : Footing L) : Type 0 where
  -- one that the server has closed is done with
  pub closed : last_id cursor ≡ pos 0 → IsOk result × (new ≡ old)
  pub killed : last_id cursor ≢ pos 0 → OnOk result (Closes (maximum_at old) cursor (at state old) (at state new) × (kept_fault old.connection ≡ None) × (kept_fault new.connection ≡ None))
  pub refused : IfErr result (IsWire (λ e. CallRefused state (kill_cursors_command (namespace_of cursor) (last_id cursor)) CommandRefused e.kind old new))
  pub rest : KeepsRest old.connection new.connection
  pub counts : CountsStay (state old.link) (state new.link)
