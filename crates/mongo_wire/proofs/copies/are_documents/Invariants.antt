use Rattle.std.proofs.Common.{length}
use Rattle.mongo_wire.specs.Sections.{AreDocuments}
use Rattle.mongo_wire.proofs.copies.are_documents.Given as goal

-- documents fill what is left just where they fill all
abbrev pub invariant-documents : goal.invariant-documents
invariant-documents l = record { to : AreDocuments l.rest → AreDocuments l.bytes; from : AreDocuments l.bytes → AreDocuments l.rest }

abbrev pub decreases-documents : goal.decreases-documents
decreases-documents l = length l.rest
