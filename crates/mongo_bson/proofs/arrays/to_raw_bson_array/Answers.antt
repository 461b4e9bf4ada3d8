use Rattle.std.proofs.Common.{◌≡◌, ℕ, List, ◌<◌, length, Err, ap, subst}
use Rattle.mongo_bson.specs.Framed.{maximum_length}
use Rattle.mongo_bson.specs.declared.fault.BsonFault.TheVariants.{TooLong}
use Rattle.mongo_bson.specs.Array.{array_of, document_entries}
use Rattle.mongo_bson.proofs.Numbered.{document_pushed, document_all, array_too_long, refused_push}
use Rattle.mongo_bson.proofs.arrays.to_raw_bson_array.Goals as goal

pub loop-document-preserved : goal.loop-document-preserved
loop-document-preserved c =
    let array = c.loop-document.array in
    let pushed = c.push.new.self in
    document_pushed array.document pushed.document c.borrow.result.bytes.now c.document-item.result array.count pushed.count c.loop-document.document-index c.as_slice-document-items.result.now c.loop-document-test.true array.framed c.loop-document.invariant c.borrow.ensures c.document-item.is c.in-Ok.ensures.added c.in-Ok.ensures.counted

pub returns-in-Err-clause-too_long : goal.returns-in-Err-clause-too_long
returns-in-Err-clause-too_long c =
    let array = c.loop-document.array in
    let fault = c.in-Err.fault in
    let longs = λ (documents : List (List ℕ)). maximum_length < length (array_of (document_entries documents)) in
    let long = λ (is : fault ≡ TooLong). array_too_long array.document c.borrow.result.bytes.now c.document-item.result array.count c.loop-document.document-index c.as_slice-document-items.result.now c.loop-document-test.true array.framed c.loop-document.invariant c.borrow.ensures c.document-item.is (c.in-Err.ensures.too_long.0 (ap Err is)) in
    refused_push fault (longs c.args.documents.now) c.in-Err.ensures.refused (λ is. subst longs c.as_slice-document-items.ensures (long is))

pub returns-clause-array : goal.returns-clause-array
returns-clause-array c =
    document_all c.loop-document.array.document c.loop-document.array.count c.loop-document.document-index c.as_slice-document-items.result.now c.args.documents.now c.loop-document-test.false c.as_slice-document-items.ensures c.loop-document.invariant
