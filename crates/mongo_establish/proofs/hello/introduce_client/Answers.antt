use Rattle.std.proofs.Common.{rules, ap, subst, ◌∙◌, length, IfErr}
use Rattle.mongo_meta.specs.Client.{client_of}
use Rattle.mongo_establish.specs.Client.{metadata_key, with_document}
use Rattle.mongo_command.specs.Exchange.{DocumentRefused}
use Rattle.mongo_establish.proofs.HelloBody.{client_refused}
use Rattle.mongo_establish.proofs.hello.introduce_client.Goals as goal

pub returns-in_err-client-clause-refused : goal.returns-in_err-client-clause-refused
returns-in_err-client-clause-refused c = client_refused _ c.args.metadata.now c.args.body.now (length c.as_bytes.result.now) (ap length c.as_bytes.ensures.bytes) (search rules)

pub returns-clause-refused : goal.returns-clause-refused
returns-clause-refused c =
    let client = c.in_ok-client.ensures.document ∙ ap (λ bytes. client_of c.args.metadata.now (length bytes)) c.as_bytes.ensures.bytes in
    subst (λ document. IfErr c.put.result (λ e. DocumentRefused e.kind (with_document metadata_key document c.args.body.now))) client c.put.ensures.refused
