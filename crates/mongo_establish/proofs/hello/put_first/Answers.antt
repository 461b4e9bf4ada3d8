use Rattle.std.proofs.Common.{◌≡◌, subst, OnOk, IfErr}
use Rattle.mongo_command.specs.Keys.{speculative_authenticate_key}
use Rattle.mongo_establish.specs.Client.{with_document}
use Rattle.mongo_command.specs.Exchange.{DocumentRefused}
use Rattle.mongo_establish.proofs.hello.put_first.Goals as goal

pub returns-clause-put : goal.returns-clause-put
returns-clause-put c =
    subst (λ document. OnOk c.put.result (c.put.new.body ≡ with_document speculative_authenticate_key document c.args.body.now)) c.in_ok-login.ensures.document c.put.ensures.put

pub returns-clause-refused : goal.returns-clause-refused
returns-clause-refused c =
    subst (λ document. IfErr c.put.result (λ e. DocumentRefused e.kind (with_document speculative_authenticate_key document c.args.body.now))) c.in_ok-login.ensures.document c.put.ensures.refused
