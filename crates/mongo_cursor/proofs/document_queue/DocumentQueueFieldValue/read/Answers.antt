use Rattle.mongo_cursor.specs.Batch.{HoldsDocuments}
use Rattle.mongo_command.proofs.FieldAnswers.{answered_by_kind}
use Rattle.mongo_cursor.proofs.document_queue.DocumentQueueFieldValue.read.Goals as goal

pub returns-in-Array : goal.returns-in-Array
returns-in-Array c = record {
  read = λ e is. let means = rw c.in-Array.is at is in answered_by_kind HoldsDocuments 0x04 e c.in-Array.array.bytes.now c.documents_in.result means.0 means.1 c.documents_in.ensures;
}
