use Rattle.std.proofs.Common.{◌≡◌, ◌≤◌, length, take}
use Rattle.mongo_wire.specs.Measure.{documents_bytes}
use Rattle.mongo_exec.proofs.batch.batch_length.Given as goal

abbrev pub invariant-cutting : goal.invariant-cutting
invariant-cutting l = record {
  counted : l.count ≡ l.document-index;
  few : l.count ≤ l.most;
  sum : l.size ≡ length (documents_bytes (take l.document-index l.documents));
  short : l.size ≤ l.room;
}
