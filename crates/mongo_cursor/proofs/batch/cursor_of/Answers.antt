use Rattle.mongo_command.proofs.FieldAnswers.{required_field}
use Rattle.mongo_cursor.specs.Batch.{ReadsCursor}
use Rattle.mongo_cursor.proofs.Batches.{no_field}
use Rattle.mongo_cursor.proofs.batch.cursor_of.Goals as goal

pub returns-in-Some : goal.returns-in-Some
returns-in-Some c = λ found is. required_field (ReadsCursor c.args.key.now) found c.in-Some.value c.cursor_of_value.result (rw c.in-Some.is at is) c.cursor_of_value.ensures

pub returns-in-None : goal.returns-in-None
returns-in-None c = λ found is value reads. no_field (ReadsCursor c.args.key.now) found value (rw c.in-None.is at is) reads
