use Rattle.std.proofs.Common.{◌≡◌, List, subst, IfOk}
use Rattle.mongo_bson.specs.Document.{Element}
use Rattle.mongo_command.specs.Literal.{document_of}
use Rattle.mongo_command.specs.HelloCommand.{named_elements}
use Rattle.mongo_command.proofs.HelloShort.{short_hello, short_only_memory}
use Rattle.mongo_command.proofs.hello_body.hello_body.Goals as goal

pub returns-clause-body : goal.returns-clause-body
returns-clause-body c =
    subst (λ (es : List Element). IfOk c.document_of.result (λ body. body ≡ document_of es)) c.hello_fields-fields.ensures.elements c.document_of.ensures.document

pub returns-clause-refused : goal.returns-clause-refused
returns-clause-refused c =
    let short = short_hello c.args.modern c.args.hello_ok c.args.awaitable c.in_ok-topology_version.ensures.short in
    short_only_memory c.document_of.result _ (named_elements c.args.modern c.args.hello_ok c.args.awaitable) c.hello_fields-fields.ensures.elements short c.document_of.ensures.refused
