use Rattle.std.proofs.Common.{take}
use Rattle.std.specs.List.{AllByRecursion}
use Rattle.mongo_wire.specs.Measure.{IsWithoutZero, HasIdentifier}
use Rattle.mongo_wire.proofs.measure.are_named.Given as goal

abbrev pub invariant-naming : goal.invariant-naming
invariant-naming l = record {
  without_zero : AllByRecursion IsWithoutZero (take l.sequence-index l.sequences);
  named : AllByRecursion HasIdentifier (take l.sequence-index l.sequences);
}
