use Rattle.std.proofs.lemmas.Result.{IfOk-weaker}
use Rattle.mongo_command.proofs.HelloRead.{malformed_hello}
use Rattle.mongo_command.proofs.hello_reading.read_hello.Goals as goal

pub returns-in-Ok-clause-read : goal.returns-in-Ok-clause-read
returns-in-Ok-clause-read c = IfOk-weaker c.answer_of.result _ _ (λ p reads. reads c.args.document.bytes.now c.in-Ok.ensures.found) c.answer_of.ensures.read

pub returns-in-Err-clause-refused : goal.returns-in-Err-clause-refused
returns-in-Err-clause-refused c = rw (c.refused_as.ensures) (malformed_hello c.args.document.bytes.now c.in-Err.fault c.in-Err.ensures.refused)
