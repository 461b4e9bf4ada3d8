use Rattle.std.proofs.Common.{length}
use Rattle.mongo_bson.specs.Find.{PassesOver}
use Rattle.mongo_bson.proofs.find.find.Given as goal

abbrev pub invariant-elements : goal.invariant-elements
invariant-elements l = PassesOver l.bytes l.key l.rest

abbrev pub decreases-elements : goal.decreases-elements
decreases-elements l = length l.rest
