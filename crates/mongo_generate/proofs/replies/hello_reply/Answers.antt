use Rattle.std.proofs.Common.{◌≡◌, List, IfOk, ap, ◌∙◌, subst, arith}
use Rattle.mongo_bson.specs.Document.{Element}
use Rattle.mongo_command.specs.Literal.{document_of}
use Rattle.mongo_command.proofs.HelloShort.{short_only_memory}
use Rattle.mongo_generate.specs.Replies.{hello_reply, standalone_around, standalone_elements}
use Rattle.mongo_generate.proofs.ReplySizes.{length_hello_reply}
use Rattle.mongo_generate.proofs.replies.hello_reply.Goals as goal

pub returns-clause-reply : goal.returns-clause-reply
unfolding hello_reply
returns-clause-reply c =
    let fields = c.hello_fields-fields.ensures.elements ∙ ap standalone_around c.in_ok-answer.ensures.answer in
    subst (λ (es : List Element). IfOk c.document_of.result (λ document. document ≡ document_of es)) fields c.document_of.ensures.document

pub returns-clause-short : goal.returns-clause-short
unfolding hello_reply
returns-clause-short c = λ short.
    let payload = c.args.server_first.now in
    let fields = c.hello_fields-fields.ensures.elements ∙ ap standalone_around c.in_ok-answer.ensures.answer in
    short_only_memory c.document_of.result _ (standalone_elements payload) fields (let size = length_hello_reply payload short in omega (arith, size)) c.document_of.ensures.refused
