use Rattle.std.proofs.Common.{length}
use Rattle.mongo_bson.specs.Keys.{bytes_of_texts}
use Rattle.mongo_bson.proofs.Filled.{ReadsKeys}
use Rattle.mongo_bson.proofs.distinct.keys_in.Given as goal

abbrev pub invariant-elements : goal.invariant-elements
invariant-elements l = ReadsKeys l.bytes l.rest (bytes_of_texts l.keys.items)

abbrev pub decreases-elements : goal.decreases-elements
decreases-elements l = length l.rest
