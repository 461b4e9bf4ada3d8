use Rattle.std.proofs.Common.{length}
use Rattle.mongo_bson.proofs.Splits.{NoneBefore, IsSpelled, IsFilledByElements}
use Rattle.mongo_bson_tests.proofs.tests.plain_reader.+are_elements.Given as goal

abbrev pub decreases-are_elements : goal.decreases-are_elements
decreases-are_elements l = length l.bytes.now

abbrev pub invariant-loop-end : goal.invariant-loop-end
invariant-loop-end l = NoneBefore IsSpelled IsFilledByElements l.bytes l.end
