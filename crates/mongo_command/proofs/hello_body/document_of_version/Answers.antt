use Rattle.std.proofs.Common.{◌≡◌, ◌^◌, ◌<◌, List, length, subst, IfOk, arith, rules}
use Rattle.mongo_bson.specs.Document.{Element}
use Rattle.mongo_command.specs.Literal.{document_of}
use Rattle.mongo_command.specs.HelloCommand.{topology_version_elements}
use Rattle.mongo_command.proofs.HelloShort.{short_version, short_document, short_only_memory}
use Rattle.mongo_command.proofs.hello_body.document_of_version.Goals as goal

pub returns-clause-document : goal.returns-clause-document
returns-clause-document c =
    subst (λ (es : List Element). IfOk c.document_of.result (λ document. document ≡ document_of es)) c.version_fields-fields.ensures.elements c.document_of.ensures.document

pub returns-clause-short : goal.returns-clause-short
returns-clause-short c =
    let twelve : length c.args.version.process_id.0 ≡ 12 = search rules in
    short_document c.document_of.result _ _ c.version_fields-fields.ensures.elements (short_version c.args.version twelve) c.document_of.ensures.document

pub returns-clause-refused : goal.returns-clause-refused
returns-clause-refused c =
    let twelve : length c.args.version.process_id.0 ≡ 12 = search rules in
    let short : length (document_of (topology_version_elements c.args.version)) < 2 ^ 8 = short_version c.args.version twelve in
    short_only_memory c.document_of.result _ _ c.version_fields-fields.ensures.elements (omega (arith, short)) c.document_of.ensures.refused
