use Rattle.mongo_bson.specs.Framed.{element_bytes}
use Rattle.mongo_command.specs.WriteReply.{ReadsWriteError}
use Rattle.mongo_command.proofs.Tables.{ReadsEachSoFar}
use Rattle.mongo_command.proofs.write_errors.write_errors_in.Given as goal

abbrev pub invariant-loop-item : goal.invariant-loop-item
invariant-loop-item l = ReadsEachSoFar ReadsWriteError (element_bytes l.fn.array.bytes.now) l.item-iterator.rest.now l.errors
