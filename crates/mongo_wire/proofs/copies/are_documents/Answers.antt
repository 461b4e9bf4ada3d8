use Rattle.std.proofs.lemmas.Bool.{false≢true}
use Rattle.mongo_bson.proofs.Levels.{left_over}
use Rattle.mongo_wire.proofs.AtFront.{documents_more, documents_back, documents_stop}
use Rattle.mongo_wire.proofs.copies.are_documents.Goals as goal

pub documents-preserved : goal.documents-preserved
documents-preserved c =
    let bytes = c.documents.rest.now in
    let document = c.in-Some._document.bytes.now in
    let after = c.in-Some.after.now in
    record {
      to = λ are. c.documents.invariant.to (documents_more bytes document after c.in-Some.ensures are);
      from = λ are. documents_back bytes document after c.in-Some.ensures (c.documents.invariant.from are);
    }

pub returns-in-None : goal.returns-in-None
returns-in-None c =
    let bytes = c.documents.rest.now in
    (λ f. absurd (false≢true f), λ are. absurd (documents_stop bytes c.in-None.ensures (left_over bytes c.documents-test.ensures) (c.documents.invariant.from are)))
