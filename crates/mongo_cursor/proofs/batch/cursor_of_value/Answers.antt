use Rattle.mongo_command.proofs.FieldAnswers.{answered_by_kind}
use Rattle.mongo_cursor.specs.Batch.{HoldsCursor}
use Rattle.mongo_cursor.proofs.batch.cursor_of_value.Goals as goal

pub returns-in-Document : goal.returns-in-Document
returns-in-Document c = λ e is. let means = rw c.in-Document.is at is in answered_by_kind (HoldsCursor c.args.key.now) 0x03 e c.in-Document.cursor.bytes.now c.cursor_in.result means.0 means.1 c.cursor_in.ensures
