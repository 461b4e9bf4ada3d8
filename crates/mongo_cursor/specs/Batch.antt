-- The batch that a reply holds, by the server's documentation of find and of getMore: its field `cursor` says the cursor's id,
-- its namespace, and the documents.
use Rattle.std.specs.Prelude.{◌≡◌, ◌≢◌, ◌⊎◌, ◌<◌, ℕ, ℤ, List, [], ◌∷◌, ◌++◌, length, codes}
use Rattle.std.specs.List.{AllByRecursion}
use Rattle.mongo_bson.specs.Document.{Element, IsDocument, text_of}
use Rattle.mongo_wire.specs.declared.error.ErrorKind.{ErrorKind}
use Rattle.mongo_wire.specs.declared.error.ErrorKind.TheVariants.{InvalidResponse, OutOfMemory}
use Rattle.mongo_wire.specs.declared.fault.ResponseFault.TheVariants.{Body}
use Rattle.mongo_command.specs.Field.{field_of, Required, ReadsInt64, ReadsDocument}
use Rattle.mongo_command.specs.WriteReply.{EachReads}
use Rattle.mongo_command.specs.CommandReply.{IsCommandBody}
use Rattle.mongo_exec.specs.Reply.{CommandRow}
use Rattle.mongo_cursor.specs.declared.namespace.Namespace.{Namespace}
use Rattle.mongo_cursor.specs.declared.batch.Batch.{Batch}

-- ---- the keys of the documents

abbrev pub first_batch : List ℕ
first_batch = codes "firstBatch"

abbrev pub next_batch : List ℕ
next_batch = codes "nextBatch"

-- ---- the namespace

abbrev pub HasNoDot : List ℕ → Type 0
HasNoDot text = AllByRecursion (λ byte. byte ≢ 0x2E) text

-- a database that isn't empty, the first dot, a collection
pub record IsNamespace (text : List ℕ) (namespace : Namespace) : Type 0 where
  pub spelled : text ≡ namespace.db ++ (0x2E ∷ namespace.collection)
  pub first : HasNoDot namespace.db
  pub some : 0 < length namespace.db

abbrev pub ReadsNamespace : Element → Namespace → Type 0
ReadsNamespace e namespace = (e.kind ≡ 0x02) × IsNamespace (text_of e.value) namespace

-- ---- the documents

-- an array of documents alone, in their order
pub record HoldsDocuments (array : List ℕ) (documents : List (List ℕ)) : Type 0 where
  pub items : List Element
  pub filled : IsDocument array items
  pub each : EachReads ReadsDocument items documents

abbrev pub ReadsDocuments : Element → List (List ℕ) → Type 0
ReadsDocuments e documents = (e.kind ≡ 0x04) × HoldsDocuments e.value documents

-- ---- the reply

-- a document that says these of a cursor. Where a key stands twice, its first element counts.
pub record HoldsCursor (key document : List ℕ) (batch : Batch) : Type 0 where
  pub items : List Element
  pub filled : IsDocument document items
  pub id : Required ReadsInt64 (field_of (codes "id") items) batch.id
  pub namespace : Required ReadsNamespace (field_of (codes "ns") items) batch.namespace
  pub documents : Required ReadsDocuments (field_of key items) batch.documents

abbrev pub ReadsCursor : List ℕ → Element → Batch → Type 0
ReadsCursor key e batch = (e.kind ≡ 0x03) × HoldsCursor key e.value batch

pub record HoldsBatch (key reply : List ℕ) (batch : Batch) : Type 0 where
  pub elements : List Element
  pub filled : IsDocument reply elements
  pub cursor : Required (ReadsCursor key) (field_of (codes "cursor") elements) batch

-- the reply is that of a command that succeeded, and holds this batch
pub record IsBatch (key reply : List ℕ) (batch : Batch) : Type 0 where
  pub body : IsCommandBody reply
  pub holds : HoldsBatch key reply batch

-- ---- why it isn't read, in this order

-- the command succeeded, and its reply holds no batch
abbrev pub BatchRow : List ℕ → ErrorKind → List ℕ → Type 0
BatchRow key (InvalidResponse Body) reply = IsCommandBody reply × ((batch : Batch) → HoldsBatch key reply batch → ⊥)
BatchRow key kind reply = ⊥

-- the command failed, or its reply isn't well formed; or that; or memory ran out
abbrev pub BatchRefused : List ℕ → ErrorKind → List ℕ → Type 0
BatchRefused key kind reply = CommandRow kind reply ⊎ (BatchRow key kind reply ⊎ (kind ≡ OutOfMemory))
