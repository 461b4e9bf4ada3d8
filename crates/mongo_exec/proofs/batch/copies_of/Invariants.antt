use Rattle.std.proofs.Common.{◌≡◌, take}
use Rattle.mongo_exec.proofs.batch.copies_of.Given as goal

abbrev pub invariant-copying : goal.invariant-copying
invariant-copying l = l.copies ≡ take l.document-index l.documents
