use Rattle.std.proofs.Common.{◌≡◌, ◌++◌, take}
use Rattle.mongo_bson.specs.Framed.{element_bytes, enclosed, IsFramed}
use Rattle.mongo_wire.specs.JoinedDocument.{arrays_bytes}
use Rattle.mongo_wire.proofs.joined_document.with_arrays.Given as goal

abbrev pub invariant-adding : goal.invariant-adding
invariant-adding l = record {
  spelled : l.document ≡ enclosed (element_bytes l.body ++ arrays_bytes (take l.sequence-index l.sequences));
  framed : IsFramed l.document;
}
