use Rattle.std.proofs.Common.{take}
use Rattle.mongo_bson.specs.Array.{IsArrayOf, document_entries}
use Rattle.mongo_bson.proofs.arrays.to_raw_bson_array.Given as goal

abbrev pub invariant-loop-document : goal.invariant-loop-document
invariant-loop-document l = IsArrayOf l.array.document l.array.count (document_entries (take l.document-index l.document-items))
