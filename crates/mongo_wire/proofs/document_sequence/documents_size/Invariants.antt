use Rattle.std.proofs.Common.{◌≡◌, ◌≤◌, length, take}
use Rattle.std.specs.List.{AllByRecursion}
use Rattle.mongo_bson.specs.Framed.{IsFramed}
use Rattle.mongo_wire.specs.Measure.{documents_bytes}
use Rattle.mongo_wire.proofs.document_sequence.documents_size.Given as goal

abbrev pub invariant-adding : goal.invariant-adding
invariant-adding l = record {
  sum : l.size ≡ length (documents_bytes (take l.document-index l.documents));
  within : l.size ≤ l.room;
  framed : AllByRecursion IsFramed (take l.document-index l.documents);
}
