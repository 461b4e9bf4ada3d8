use Rattle.mongo_service.proofs.Queried.{no_collection_name, no_numbers, no_query_document, other_name, query_found}
use Rattle.mongo_service.proofs.query.document_of_query.Goals as goal

pub returns-in_err-collection : goal.returns-in_err-collection
returns-in_err-collection c =
    let flags = c.in_ok-after_flags.ensures in
    rw c.from_residual-in_err-collection.ensures (no_collection_name c.args.body.now flags.0 c.in_ok-after_flags.after_flags.now flags.1 flags.2 c.in_err-collection.ensures)

pub returns-in_default : goal.returns-in_default
returns-in_default c =
    let flags = c.in_ok-after_flags.ensures in
    other_name c.args.body.now flags.0 c.in_ok-after_flags.after_flags.now c.in_ok-collection.collection.now c.in_ok-collection.after_name.now flags.1 flags.2 c.in_ok-collection.ensures.is_cstring c.in_ok-collection.ensures.spelled
    c.in_default.not-text

pub returns-in_err-bytes_after-in-text : goal.returns-in_err-bytes_after-in-text
returns-in_err-bytes_after-in-text c =
    let flags = c.in_ok-after_flags.ensures in
    rw c.from_residual-in_err-bytes_after-in-text.ensures
    (no_numbers c.args.body.now flags.0 c.in_ok-after_flags.after_flags.now c.in_ok-collection.collection.now c.in_ok-collection.after_name.now flags.1 flags.2 c.in_ok-collection.ensures.is_cstring c.in_ok-collection.ensures.spelled
    c.in_err-bytes_after-in-text.ensures)

pub returns-in_err-document-in-text : goal.returns-in_err-document-in-text
returns-in_err-document-in-text c =
    let flags = c.in_ok-after_flags.ensures in
    let numbers = c.in_ok-bytes_after-in-text.ensures in
    rw c.from_residual-in_err-document-in-text.ensures
    (no_query_document c.args.body.now flags.0 c.in_ok-after_flags.after_flags.now c.in_ok-collection.collection.now c.in_ok-collection.after_name.now numbers.0 c.in_ok-bytes_after-in-text.field-0.now
    flags.1 flags.2 c.in_ok-collection.ensures.is_cstring c.in_ok-collection.ensures.spelled numbers.1 numbers.2 c.in_err-document-in-text.ensures)

pub returns-in_ok-document-in-text : goal.returns-in_ok-document-in-text
returns-in_ok-document-in-text c =
    let flags = c.in_ok-after_flags.ensures in
    let numbers = c.in_ok-bytes_after-in-text.ensures in
    let found = c.in_ok-document-in-text in
    query_found c.args.body.now flags.0 c.in_ok-after_flags.after_flags.now c.in_ok-collection.collection.now c.in_ok-collection.after_name.now numbers.0 c.in_ok-bytes_after-in-text.field-0.now found.document.bytes.now found._more.now
    flags.1 flags.2 c.in_ok-collection.ensures.spelled c.in-text.is numbers.1 numbers.2 found.ensures
