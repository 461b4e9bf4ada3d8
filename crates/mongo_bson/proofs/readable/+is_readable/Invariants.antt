use Rattle.std.proofs.Common.{◌-◌, ◌<◌, length}
use Rattle.mongo_bson.specs.Document.{IsReadable}
use Rattle.mongo_bson.proofs.Levels.{Reads}
use Rattle.mongo_bson.proofs.readable.+is_readable.Given as goal

abbrev pub decreases-is_readable : goal.decreases-is_readable
decreases-is_readable l = l.levels

abbrev pub invariant-elements : goal.invariant-elements
invariant-elements l =
    record {
      some : 0 < l.levels;
      to : Reads (l.levels - 1) l.rest → IsReadable l.levels l.document;
      from : IsReadable l.levels l.document → Reads (l.levels - 1) l.rest;
    }

abbrev pub decreases-elements : goal.decreases-elements
decreases-elements l = length l.rest
