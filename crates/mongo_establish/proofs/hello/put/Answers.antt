use Rattle.std.proofs.Common.{subst}
use Rattle.mongo_establish.specs.Client.{with_document}
use Rattle.mongo_command.specs.Exchange.{DocumentRefused}
use Rattle.mongo_establish.proofs.HelloBody.{append_refused}
use Rattle.mongo_establish.proofs.hello.put.Goals as goal

pub returns-in-Err-clause-refused : goal.returns-in-Err-clause-refused
returns-in-Err-clause-refused c =
    let refused = append_refused c.append.result c.in-Err.fault c.from.result.kind c.args.key.now c.borrow.result.bytes.now c.args.body.now c.requires c.from.ensures c.in-Err.is c.append.ensures.refused c.append.ensures.key_has_zero c.append.ensures.too_long in
    subst (λ value. DocumentRefused c.from.result.kind (with_document c.args.key.now value c.args.body.now)) c.borrow.ensures refused
