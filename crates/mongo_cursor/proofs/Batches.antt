-- The fields of a cursor's document, by its one list of elements; and why a reply holds no batch.
use Rattle.std.proofs.Common.{◌≡◌, ℕ, ℤ, Option, None, Some, List, codes, inl, inr, refl, subst, Result, Ok, Err}
use Rattle.mongo_bson.specs.Document.{Element, IsDocument}
use Rattle.mongo_bson.proofs.OneElement.{one_document}
use Rattle.mongo_wire.specs.declared.error.ErrorKind.{ErrorKind}
use Rattle.mongo_wire.specs.declared.error.ErrorKind.TheVariants.{InvalidResponse, OutOfMemory}
use Rattle.mongo_wire.specs.declared.fault.ResponseFault.TheVariants.{Body}
use Rattle.mongo_command.specs.declared.field.FieldFault.{FieldFault}
use Rattle.mongo_command.specs.declared.field.FieldFault.TheVariants.{Unreadable, OutOfMemory as NoMemory}
use Rattle.mongo_command.specs.Field.{field_of, Required, ReadsInt64}
use Rattle.mongo_command.specs.Fields.{Answers, IsValueOf}
use Rattle.mongo_command.specs.CommandReply.{IsCommandBody, CommandRefused}
use Rattle.mongo_command.proofs.InnerDocuments.{by_elements}
use Rattle.mongo_cursor.specs.Batch.{HoldsCursor, ReadsCursor, HoldsBatch, ReadsNamespace, ReadsDocuments, BatchRefused}
use Rattle.mongo_cursor.specs.declared.namespace.Namespace.{Namespace}
use Rattle.mongo_cursor.specs.declared.batch.Batch.{Batch}

module _ (key document : List ℕ) (elements : List Element) (is : IsDocument document elements) (batch : Batch) (holds : HoldsCursor key document batch) where
  pub id_of : (id : ℤ) × Required ReadsInt64 (field_of (codes "id") elements) id
  id_of = (batch.id, by_elements (Required ReadsInt64) (codes "id") document holds.items elements batch.id holds.filled is holds.id)

  pub namespace_of : (namespace : Namespace) × Required ReadsNamespace (field_of (codes "ns") elements) namespace
  namespace_of = (batch.namespace, by_elements (Required ReadsNamespace) (codes "ns") document holds.items elements batch.namespace holds.filled is holds.namespace)

  pub documents_of : (documents : List (List ℕ)) × Required ReadsDocuments (field_of key elements) documents
  documents_of = (batch.documents, by_elements (Required ReadsDocuments) key document holds.items elements batch.documents holds.filled is holds.documents)

-- what is answered of the field is answered of the document
pub batch_answer : (key document : List ℕ) (elements : List Element) (answer : Result Batch FieldFault) → IsDocument document elements → Answers (Required (ReadsCursor key)) (field_of (codes "cursor") elements) answer → Answers (HoldsBatch key) document answer
batch_answer key document elements (Ok batch) is reads = record { elements = elements; filled = is; cursor = reads }
batch_answer key document elements (Err Unreadable) is none = λ batch holds. none batch (by_elements (Required (ReadsCursor key)) (codes "cursor") document holds.elements elements batch holds.filled is holds.cursor)
batch_answer key document elements (Err NoMemory) is none = tt

pub no_field : {A : Type 0} (Reads : Element → A → Type 0) (found : Option Element) (value : A) → IsValueOf found None → Required Reads found value → ⊥
unfolding Required
no_field Reads None value is reads = reads
no_field Reads (Some e) value is reads = is

pub command_refused : (key : List ℕ) (kind : ErrorKind) (reply : List ℕ) → CommandRefused kind reply → BatchRefused key kind reply
command_refused key OutOfMemory reply refused = inr (inr refl)
command_refused key kind reply refused = inl refused

pub no_batch : (key reply bytes : List ℕ) (answer : Result Batch FieldFault) → IsCommandBody reply → bytes ≡ reply → answer ≡ Err Unreadable → Answers (HoldsBatch key) bytes answer → BatchRefused key (InvalidResponse Body) reply
no_batch key reply bytes answer body same is none = inr (inl (body, subst (λ b. Answers (HoldsBatch key) b (Err Unreadable)) same (subst (Answers (HoldsBatch key) bytes) is none)))
