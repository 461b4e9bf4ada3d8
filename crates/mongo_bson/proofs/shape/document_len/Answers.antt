use Rattle.mongo_bson.specs.Framed.{IsFramed}
use Rattle.mongo_bson.proofs.Sizes.{document_size, none_as_short, none_counted, counts_itself}
use Rattle.mongo_bson.proofs.shape.document_len.Goals as goal

pub returns-in_err-size : goal.returns-in_err-size
returns-in_err-size c =
    let bytes = c.args.bytes.now in
    rw c.from_residual.ensures (none_as_short IsFramed bytes 0 (document_size bytes) c.in_err-size.ensures)

pub is_document-requires : goal.is_document-requires
is_document-requires c = counts_itself c.args.bytes.now 0 c.in_ok-size.size c.in_ok-size.ensures

pub returns-else-is_document : goal.returns-else-is_document
returns-else-is_document c =
    let bytes = c.args.bytes.now in
    none_counted IsFramed bytes 0 c.in_ok-size.size c.is_document.result (document_size bytes) c.in_ok-size.ensures c.if-is_document.false c.is_document.ensures.1
