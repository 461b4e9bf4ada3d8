use Rattle.std.proofs.Common.{◌≡◌, ◌++◌, length}
use Rattle.std.specs.List.{AllByRecursion, flat_map}
use Rattle.mongo_bson.specs.Framed.{IsFramed}
use Rattle.mongo_wire.proofs.copies.copies_of_documents.Given as goal

-- the documents so far, and what is left
abbrev pub invariant-documents : goal.invariant-documents
invariant-documents l = record { each : AllByRecursion IsFramed l.documents; spelled : l.bytes ≡ flat_map (λ d. d) l.documents ++ l.rest }

abbrev pub decreases-documents : goal.decreases-documents
decreases-documents l = length l.rest
