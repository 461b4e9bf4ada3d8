-- The reply to a write, by the server's write commands: which writes were refused, and whether the write concern was met.
use Rattle.std.specs.Prelude.{◌≡◌, ℕ, pos, ◌^◌, ◌<◌, ◌||◌, ◌⊎◌, Option, None, Some, Result, Ok, Err, List, [], ◌∷◌, codes, if◌then◌else◌, is_some, option_map, ⊤}
use Rattle.mongo_bson.specs.Document.{Element, IsDocument}
use Rattle.mongo_wire.specs.declared.error.Error.{Error}
use Rattle.mongo_wire.specs.declared.error.ErrorKind.{ErrorKind}
use Rattle.mongo_wire.specs.declared.error.ErrorKind.TheVariants.{InvalidResponse, Write, InsertMany, OutOfMemory}
use Rattle.mongo_wire.specs.declared.fault.ResponseFault.TheVariants.{Body}
use Rattle.mongo_wire.specs.declared.write_error.WriteError.{WriteError}
use Rattle.mongo_wire.specs.declared.write_error.IndexedWriteError.{IndexedWriteError}
use Rattle.mongo_wire.specs.declared.write_error.WriteConcernError.{WriteConcernError}
use Rattle.mongo_wire.specs.declared.write_error.WriteFailure.{WriteFailure}
use Rattle.mongo_wire.specs.declared.write_error.WriteFailureCause.{WriteFailureCause}
use Rattle.mongo_wire.specs.declared.write_error.WriteFailureCause.TheVariants.{WriteError as OfWrite, WriteConcernError as OfConcern}
use Rattle.mongo_wire.specs.declared.write_error.InsertManyError.{InsertManyError}
use Rattle.mongo_command.specs.Field.{field_of, whole_number, HoldsTable, Required, Optional, OrEmpty, OptionalOrEmpty, ReadsText, ReadsInt32, ReadsDocument, ReadsTexts}
use Rattle.mongo_command.specs.Keys.{code_key, code_name_key, err_info_key, errmsg_key, error_labels_key}

-- each element reads as the value at its place
abbrev pub EachReads : {A : Type 0} → (Element → A → Type 0) → List Element → List A → Type 0
EachReads Reads [] [] = ⊤
EachReads Reads (e ∷ es) (value ∷ values) = Reads e value × EachReads Reads es values
EachReads Reads elements values = ⊥

-- ---- a refused write

-- a whole number from 0 to 4294967295
abbrev pub ReadsUnsigned32 : Element → ℕ → Type 0
ReadsUnsigned32 e number = (whole_number e ≡ Some (pos number)) × (number < 2 ^ 32)

pub record IsWriteErrorTable (elements : List Element) (indexed : IndexedWriteError) : Type 0 where
  pub index : Required ReadsUnsigned32 (field_of (codes "index") elements) indexed.index
  pub code : Required ReadsInt32 (field_of code_key elements) indexed.error.code
  pub code_name : Optional ReadsText (field_of code_name_key elements) indexed.error.code_name
  pub message : OrEmpty ReadsText (field_of errmsg_key elements) indexed.error.message
  pub details : Optional ReadsDocument (field_of err_info_key elements) indexed.error.details

abbrev pub ReadsWriteError : Element → IndexedWriteError → Type 0
ReadsWriteError e indexed = (e.kind ≡ 0x03) × HoldsTable IsWriteErrorTable e.value indexed

-- a document of write errors alone, in their order
pub record HoldsWriteErrors (document : List ℕ) (errors : List IndexedWriteError) : Type 0 where
  pub items : List Element
  pub filled : IsDocument document items
  pub each : EachReads ReadsWriteError items errors

-- an array of write errors
abbrev pub ReadsWriteErrors : Element → List IndexedWriteError → Type 0
ReadsWriteErrors e errors = (e.kind ≡ 0x04) × HoldsWriteErrors e.value errors

-- ---- a write concern that wasn't met

pub record IsConcernErrorTable (elements : List Element) (error : WriteConcernError) : Type 0 where
  pub code : Required ReadsInt32 (field_of code_key elements) error.code
  pub code_name : OrEmpty ReadsText (field_of code_name_key elements) error.code_name
  pub message : OrEmpty ReadsText (field_of errmsg_key elements) error.message
  pub details : Optional ReadsDocument (field_of err_info_key elements) error.details
  pub labels : OrEmpty ReadsTexts (field_of error_labels_key elements) error.labels

abbrev pub ReadsConcernError : Element → WriteConcernError → Type 0
ReadsConcernError e error = (e.kind ≡ 0x03) × HoldsTable IsConcernErrorTable e.value error

-- ---- the reply

pub record IsWriteReplyTable (elements : List Element) (reply : InsertManyError) : Type 0 where
  pub write_errors : Optional ReadsWriteErrors (field_of (codes "writeErrors") elements) reply.write_errors
  pub write_concern_error : Optional ReadsConcernError (field_of (codes "writeConcernError") elements) reply.write_concern_error
  pub labels : OptionalOrEmpty ReadsTexts (field_of error_labels_key elements) reply.labels

abbrev pub IsWriteReply : List ℕ → InsertManyError → Type 0
IsWriteReply = HoldsTable IsWriteReplyTable

-- ---- what it says of a write

abbrev pub first_error : Option (List IndexedWriteError) → Option WriteError
first_error None = None
first_error (Some []) = None
first_error (Some (indexed ∷ more)) = Some indexed.error

-- the first write error, else the write concern error
abbrev pub first_cause : Option WriteError → Option WriteConcernError → Option WriteFailureCause
first_cause (Some error) concern_error = Some (OfWrite error)
first_cause None concern_error = option_map OfConcern concern_error

abbrev pub write_failure : InsertManyError → Option WriteFailure
write_failure reply = option_map (λ cause. let failure : WriteFailure = record { cause = cause; labels = reply.labels } in failure) (first_cause (first_error reply.write_errors) reply.write_concern_error)

-- an insert of many is refused where either field is there
abbrev pub insert_failure : InsertManyError → Option InsertManyError
insert_failure reply = if is_some reply.write_errors || is_some reply.write_concern_error then Some reply else None

-- the document is a reply that says this
abbrev pub SaysOfWrite : {F : Type 0} → (InsertManyError → Option F) → List ℕ → Option F → Type 0
SaysOfWrite failure_of document failure = (reply : InsertManyError) × IsWriteReply document reply × (failure_of reply ≡ failure)

abbrev pub IsNoWriteReply : List ℕ → Type 0
IsNoWriteReply document = (reply : InsertManyError) → IsWriteReply document reply → ⊥

-- why a reply isn't read
abbrev pub WriteReplyRefused : ErrorKind → List ℕ → Type 0
WriteReplyRefused (InvalidResponse Body) document = IsNoWriteReply document
WriteReplyRefused OutOfMemory document = ⊤
WriteReplyRefused kind document = ⊥

-- why a single write is refused
abbrev pub SingleWriteRefused : ErrorKind → List ℕ → Type 0
SingleWriteRefused (Write failure) document = SaysOfWrite write_failure document (Some failure)
SingleWriteRefused kind document = WriteReplyRefused kind document

-- why an insert of many is
abbrev pub InsertManyRefused : ErrorKind → List ℕ → Type 0
InsertManyRefused (InsertMany failure) document = SaysOfWrite insert_failure document (Some failure)
InsertManyRefused kind document = WriteReplyRefused kind document

-- ---- the one answer

-- the kind for a failure, or want of memory, and this alone where there is none
abbrev pub IsKindFor : {F : Type 0} → (F → ErrorKind) → Option F → ErrorKind → Type 0
IsKindFor kind_of None kind = kind ≡ OutOfMemory
IsKindFor kind_of (Some failure) kind = (kind ≡ OutOfMemory) ⊎ (kind ≡ kind_of failure)

-- done where there is no failure, and else refused for it; or memory ran out
abbrev pub Validates : {F : Type 0} → (F → ErrorKind) → Option F → Result (Unit {0}) Error → Type 0
Validates kind_of failure (Ok x) = failure ≡ None
Validates kind_of failure (Err e) = IsKindFor kind_of failure e.kind
