use Rattle.std.proofs.Common.{codes}
use Rattle.mongo_command.specs.Field.{field_of, Required, ReadsInt64}
use Rattle.mongo_command.proofs.FieldAnswers.{part_fault}
use Rattle.mongo_cursor.specs.Batch.{HoldsCursor, ReadsNamespace, ReadsDocuments}
use Rattle.mongo_cursor.proofs.Batches.{id_of, namespace_of, documents_of}
use Rattle.mongo_cursor.proofs.batch.cursor_in.Goals as goal

pub returns-in_err-id : goal.returns-in_err-id
returns-in_err-id c =
    let document = c.args.cursor.bytes.now in
    let holds = c.in_ok-fields.ensures.found in
    part_fault (HoldsCursor c.args.key.now) (Required ReadsInt64) document (field_of (codes "id") holds.elements) _ _ c.from_residual-in_err-id.ensures.1 (id_of c.args.key.now document holds.elements holds.filled) (c.in_err-id.ensures holds.elements holds.are)

pub returns-in_err-namespace : goal.returns-in_err-namespace
returns-in_err-namespace c =
    let document = c.args.cursor.bytes.now in
    let holds = c.in_ok-fields.ensures.found in
    part_fault (HoldsCursor c.args.key.now) (Required ReadsNamespace) document (field_of (codes "ns") holds.elements) _ _ c.from_residual-in_err-namespace.ensures.1 (namespace_of c.args.key.now document holds.elements holds.filled) (c.in_err-namespace.ensures holds.elements holds.are)

pub returns-in_err-documents : goal.returns-in_err-documents
returns-in_err-documents c =
    let document = c.args.cursor.bytes.now in
    let holds = c.in_ok-fields.ensures.found in
    part_fault (HoldsCursor c.args.key.now) (Required ReadsDocuments) document (field_of c.args.key.now holds.elements) _ _ c.from_residual-in_err-documents.ensures.1 (documents_of c.args.key.now document holds.elements holds.filled) (c.in_err-documents.ensures holds.elements holds.are)
