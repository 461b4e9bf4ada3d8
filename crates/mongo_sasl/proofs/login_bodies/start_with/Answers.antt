use Rattle.std.proofs.Common.{◌≡◌, IfOk, IfErr, List, subst}
use Rattle.mongo_bson.specs.Document.{Element}
use Rattle.mongo_command.specs.Arguments.{TooLongFor, field_elements}
use Rattle.mongo_command.specs.Literal.{document_of}
use Rattle.mongo_sasl.proofs.StartBody.{started_with}
use Rattle.mongo_sasl.proofs.login_bodies.start_with.Goals as goal

pub returns-clause-body : goal.returns-clause-body
returns-clause-body c =
    let started = started_with c.args.mechanism c.as_str.result.now c.as_bytes.result.now c.args.payload.now (field_elements c.args.options) c.as_str.ensures.name c.as_bytes.ensures in
    subst (λ (es : List Element). IfOk c.document_of.result (λ body. body ≡ document_of es)) started c.document_of.ensures.document

pub returns-clause-refused : goal.returns-clause-refused
returns-clause-refused c =
    let started = started_with c.args.mechanism c.as_str.result.now c.as_bytes.result.now c.args.payload.now (field_elements c.args.options) c.as_str.ensures.name c.as_bytes.ensures in
    subst (λ (es : List Element). IfErr c.document_of.result (λ fault. TooLongFor fault (document_of es))) started c.document_of.ensures.refused
