use Rattle.mongo_bson.proofs.Levels.{left_over, none_left}
use Rattle.mongo_wire.proofs.Copied.{all_documents, stop_documents}
use Rattle.mongo_wire.proofs.copies.copies_of_documents.Goals as goal

pub returns-in-None : goal.returns-in-None
returns-in-None c = record {
  copied = λ are. stop_documents c.args.bytes.now c.documents.rest.now c.documents.documents are c.documents.invariant.each c.documents.invariant.spelled (left_over c.documents.rest.now c.documents-test.ensures) c.in-None.ensures;
  refused = tt;
}

pub returns-clause-copied : goal.returns-clause-copied
returns-clause-copied c =
    let rest = c.documents.rest.now in
    (c.documents.invariant.each, all_documents c.args.bytes.now rest c.documents.documents c.documents.invariant.spelled (none_left rest c.documents-test.ensures))
