use Rattle.mongo_bson.specs.Framed.{element_bytes}
use Rattle.mongo_command.specs.Field.{ReadsDocument}
use Rattle.mongo_command.proofs.Tables.{ReadsEachSoFar}
use Rattle.mongo_cursor.proofs.document_queue.documents_in.Given as goal

abbrev pub invariant-loop-item : goal.invariant-loop-item
invariant-loop-item l = ReadsEachSoFar ReadsDocument (element_bytes l.fn.array.bytes.now) l.item-iterator.rest.now l.documents
