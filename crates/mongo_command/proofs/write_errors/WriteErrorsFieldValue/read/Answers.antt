use Rattle.mongo_command.specs.WriteReply.{HoldsWriteErrors}
use Rattle.mongo_command.proofs.FieldAnswers.{answered_by_kind}
use Rattle.mongo_command.proofs.write_errors.WriteErrorsFieldValue.read.Goals as goal

pub returns-in-Array : goal.returns-in-Array
returns-in-Array c = record {
  read = λ e is. let means = rw c.in-Array.is at is in answered_by_kind HoldsWriteErrors 0x04 e c.in-Array.array.bytes.now c.write_errors_in.result means.0 means.1 c.write_errors_in.ensures;
}
