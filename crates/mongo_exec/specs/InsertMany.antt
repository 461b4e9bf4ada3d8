-- The inserts' theorem: what an insert of many documents writes, takes and answers, and why it is refused.
use Rattle.std.specs.Prelude.{◌≡◌, ◌⊎◌, ℕ, pos, ◌<◌, ◌≤◌, ◌<ℤ◌, ◌≤ℤ◌, Option, None, Some, Result, List, [], ◌∷◌, ◌++◌, length, All, IfOk, IfErr, OnOk}
use Rattle.mongo_bson.specs.Framed.{maximum_length}
use Rattle.mongo_bson.specs.declared.fault.BsonFault.TheVariants.{TooLong as DocumentLimit}
use Rattle.mongo_wire.specs.declared.error.ErrorKind.{ErrorKind}
use Rattle.mongo_wire.specs.declared.error.ErrorKind.TheVariants.{InvalidArgument, OutOfMemory}
use Rattle.mongo_wire.specs.declared.fault.ArgumentFault.{ArgumentFault}
use Rattle.mongo_wire.specs.declared.fault.ArgumentFault.TheVariants.{Bson, MaximumNegative, TooLong}
use Rattle.mongo_wire.specs.Outside.{State}
use Rattle.mongo_command.specs.Connection.{kept_fault, KeepsRest}
use Rattle.mongo_command.specs.Exchange.{Point, point, CountsStay}
use Rattle.mongo_command.specs.EndsExchange.{Footing}
use Rattle.mongo_command.specs.declared.stream_description.StreamDescription.{StreamDescription}
use Rattle.mongo_exec.specs.Insert.{Insert, insert_document, insert_size}
use Rattle.mongo_exec.specs.Cut.{IsFirstBatch}
use Rattle.mongo_exec.specs.Outcome.{Answered, outcome_of, nothing_inserted, Stops, GoesTo}
use Rattle.mongo_exec.specs.Batches.{Sent, BatchRefused}
use Rattle.mongo_exec.specs.declared.insert_outcome.InsertOutcome.{InsertOutcome}
use Rattle.mongo_exec.specs.declared.exec_error.ExecError.{ExecError}
use Rattle.mongo_exec.specs.declared.exec_error.ExecError.TheVariants.{NoDescription, NoDocuments, BatchSize, DocumentTooLong, Wire}
use Rattle.mongo_exec.specs.declared.exec_error.InsertFault.{InsertFault}

-- ---- before the first byte

-- what an argument is refused as
abbrev pub argument_error : ArgumentFault → ExecError
argument_error fault = Wire (record { kind = InvalidArgument fault })

-- no document that is longer, and a frame of this document alone that isn't
pub record IsAccepted (description : StreamDescription) (insert : Insert) (document : List ℕ) : Type 0 where
  pub whole : pos (length document) ≤ℤ description.max_bson_object_size
  pub alone : pos (insert_size insert (document ∷ [])) ≤ℤ description.max_message_size_bytes

-- what is asked of the documents' number, the command and the server's limits, each after the one before it
pub record HasBatches (description : StreamDescription) (documents : List (List ℕ)) : Type 0 where
  pub some : 0 < length documents
  pub size : pos 1 ≤ℤ description.max_write_batch_size

pub record HasCommand (description : StreamDescription) (insert : Insert) (documents : List (List ℕ)) : Type 0 where
  pub batches : HasBatches description documents
  pub document : length (insert_document insert) ≤ maximum_length

pub record HasRoom (description : StreamDescription) (insert : Insert) (documents : List (List ℕ)) : Type 0 where
  pub command : HasCommand description insert documents
  pub maximum : pos 0 ≤ℤ description.max_message_size_bytes

-- it can be sent
pub record IsSendable (description : StreamDescription) (insert : Insert) (documents : List (List ℕ)) : Type 0 where
  pub room : HasRoom description insert documents
  pub each : All (IsAccepted description insert) documents

-- the first document that isn't accepted stands at the place
pub record IsFirstUnaccepted (description : StreamDescription) (insert : Insert) (documents : List (List ℕ)) (place : ℕ) (document : List ℕ) : Type 0 where
  pub before : List (List ℕ)
  pub after : List (List ℕ)
  pub joined : documents ≡ before ++ document ∷ after
  pub place_is : place ≡ length before
  pub accepted : All (IsAccepted description insert) before

-- that document is longer
pub record IsTooLong (description : StreamDescription) (insert : Insert) (documents : List (List ℕ)) (place : ℕ) : Type 0 where
  pub document : List ℕ
  pub first : IsFirstUnaccepted description insert documents place document
  pub long : description.max_bson_object_size <ℤ pos (length document)

-- that document isn't, and its insert is
pub record IsTooLongAlone (description : StreamDescription) (insert : Insert) (documents : List (List ℕ)) : Type 0 where
  pub place : ℕ
  pub document : List ℕ
  pub first : IsFirstUnaccepted description insert documents place document
  pub short : pos (length document) ≤ℤ description.max_bson_object_size
  pub long : description.max_message_size_bytes <ℤ pos (insert_size insert (document ∷ []))

-- why that document isn't accepted
abbrev pub UnacceptedRow : ExecError → StreamDescription → Insert → List (List ℕ) → Type 0
UnacceptedRow (DocumentTooLong place) description insert documents = IsTooLong description insert documents place
UnacceptedRow (Wire error) description insert documents = (error.kind ≡ InvalidArgument TooLong) × IsTooLongAlone description insert documents
UnacceptedRow error description insert documents = ⊥

abbrev pub WireRow : ErrorKind → StreamDescription → Insert → List (List ℕ) → Type 0
WireRow (InvalidArgument (Bson DocumentLimit)) description insert documents = HasBatches description documents × (maximum_length < length (insert_document insert))
WireRow (InvalidArgument MaximumNegative) description insert documents = HasCommand description insert documents × (description.max_message_size_bytes <ℤ pos 0)
WireRow (InvalidArgument TooLong) description insert documents = HasRoom description insert documents × IsTooLongAlone description insert documents
WireRow kind description insert documents = ⊥

-- why an insert is refused by a described server before a byte is written, in this order
abbrev pub DescribedRow : ExecError → StreamDescription → Insert → List (List ℕ) → Type 0
DescribedRow NoDescription description insert documents = ⊥
DescribedRow NoDocuments description insert documents = documents ≡ []
DescribedRow BatchSize description insert documents = (0 < length documents) × (description.max_write_batch_size <ℤ pos 1)
DescribedRow (DocumentTooLong place) description insert documents = HasRoom description insert documents × IsTooLong description insert documents place
DescribedRow (Wire error) description insert documents = WireRow error.kind description insert documents

-- the same of any connection: one without a description comes first
abbrev pub EarlyRow : ExecError → Option StreamDescription → Insert → List (List ℕ) → Type 0
EarlyRow error None insert documents = error ≡ NoDescription
EarlyRow error (Some description) insert documents = DescribedRow error description insert documents

-- memory ran out
abbrev pub IsMemory : ExecError → Type 0
IsMemory error = error ≡ Wire (record { kind = OutOfMemory })

-- why nothing is begun: a row of those, or else the fault that the connection keeps; or memory ran out
abbrev pub BeginRefused : ExecError → Option StreamDescription → Option ErrorKind → Insert → List (List ℕ) → Type 0
BeginRefused error description kept insert documents =
    EarlyRow error description insert documents
    ⊎ (IsMemory error ⊎ (((row : ExecError) → EarlyRow row description insert documents → ⊥) × ((kind : ErrorKind) × (kept ≡ Some kind) × (error ≡ Wire (record { kind = kind })))))

-- ---- the end

abbrev pub described : {L : Type 0} → Footing L → Option StreamDescription
described place = place.connection.stream_description

-- All of the list was inserted, or all up to a batch that stops it: its cut's frames were written, one reply was taken for
-- each, and this is what the replies say.
pub record Inserts (description : StreamDescription) (insert : Insert) (documents : List (List ℕ)) (outcome : InsertOutcome) (old new : Point) : Type 0 where
  pub sendable : IsSendable description insert documents
  pub answered : List Answered
  pub rest : List (List ℕ)
  pub sent : Sent description insert documents answered rest old new
  pub stop : GoesTo insert.ordered answered rest
  pub outcome_is : outcome ≡ outcome_of answered

-- Nothing was done: why, and the link, the ids and the kept fault are as they were.
pub record Unbegun {L : Type 0} (insert : Insert) (documents : List (List ℕ)) (fault : InsertFault) (old new : Footing L) : Type 0 where
  pub cause : BeginRefused fault.error (described old) (kept_fault old.connection) insert documents
  pub done : fault.done ≡ nothing_inserted
  pub link : new.link ≡ old.link
  pub ids : new.id ≡ old.id
  pub kept : kept_fault new.connection ≡ kept_fault old.connection

-- The first batches were inserted, and the next one was refused: what was done is what the replies to those say.
pub record Interrupted (description : StreamDescription) (insert : Insert) (documents : List (List ℕ)) (fault : InsertFault) (old new : Point) (kept : Option ErrorKind) : Type 0 where
  pub sendable : IsSendable description insert documents
  pub answered : List Answered
  pub rest : List (List ℕ)
  pub middle : Point
  pub sent : Sent description insert documents answered rest old middle
  pub on : All (λ a. Stops insert.ordered a → ⊥) answered
  pub done : fault.done ≡ outcome_of answered
  pub left : 0 < length rest
  pub batch : List (List ℕ)
  pub more : List (List ℕ)
  pub next : IsFirstBatch description insert rest batch more
  pub kind : ErrorKind
  pub error : fault.error ≡ Wire (record { kind = kind })
  pub refused : BatchRefused description insert batch kind middle new kept

abbrev pub at : {L : Type 0} → (L → State) → Footing L → Point
at state place = point (state place.link) place.id

-- How an insert of many documents ends.
pub record EndsInsert {L : Type 0} (state : L → State) (insert : Insert) (documents : List (List ℕ)) (result : Result InsertOutcome InsertFault) (old new : Footing L) : Type 0 where
  pub inserted : IfOk result (λ outcome. (description : StreamDescription) × (described old ≡ Some description) × Inserts description insert documents outcome (at state old) (at state new))
  -- each refusal has its cause, and says what was done before it
  pub refused : IfErr result (λ fault. Unbegun insert documents fault old new
      ⊎ ((description : StreamDescription) × (described old ≡ Some description) × (kept_fault old.connection ≡ None) × Interrupted description insert documents fault (at state old) (at state new) (kept_fault new.connection)))
  -- a fault that the connection keeps is answered again, and after an answer none is kept
  pub faultless : OnOk result ((kept_fault old.connection ≡ None) × (kept_fault new.connection ≡ None))
  -- nothing else of the connection changes, what the link tells stays told, and no count falls
  pub rest : KeepsRest old.connection new.connection
  pub counts : CountsStay (state old.link) (state new.link)
