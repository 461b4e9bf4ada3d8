use Rattle.mongo_command.specs.Field.{HoldsTable}
use Rattle.mongo_command.specs.WriteReply.{IsWriteErrorTable}
use Rattle.mongo_command.proofs.FieldAnswers.{answered_by_kind}
use Rattle.mongo_command.proofs.write_errors.IndexedWriteErrorFieldValue.read.Goals as goal

pub returns-in-Document : goal.returns-in-Document
returns-in-Document c = record {
  read = λ e is. let means = rw c.in-Document.is at is in answered_by_kind (HoldsTable IsWriteErrorTable) 0x03 e c.in-Document.document.bytes.now c.read_table.result means.0 means.1 c.read_table.ensures;
}
