use Rattle.std.proofs.Common.{◌≡◌, ◌-◌, ◌^◌, min, length, take}
use Rattle.std.specs.List.{AllByRecursion}
use Rattle.mongo_wire.specs.Measure.{HasCountedSize, HoldsDocuments, sequences_bytes}
use Rattle.mongo_wire.proofs.measure.sequences_size.Given as goal

abbrev pub invariant-summing : goal.invariant-summing
invariant-summing l = record {
  sum : l.size ≡ min (length (sequences_bytes (take l.sequence-index l.sequences))) (2 ^ 64 - 1);
  counted : AllByRecursion HasCountedSize (take l.sequence-index l.sequences);
  documents : AllByRecursion HoldsDocuments (take l.sequence-index l.sequences);
}
