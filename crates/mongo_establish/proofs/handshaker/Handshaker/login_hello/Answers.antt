use Rattle.std.proofs.Common.{rules, ap, ◌∙◌, option_copied, option_map}
use Rattle.mongo_establish.proofs.HelloBody.{asking_refused, speculating_refused}
use Rattle.mongo_establish.specs.Client.{asking_mechanisms}
use Rattle.mongo_establish.specs.First.{first_document}
use Rattle.mongo_establish.proofs.handshaker.Handshaker.login_hello.Goals as goal

pub returns-in_err-ask_mechanisms-clause-refused : goal.returns-in_err-ask_mechanisms-clause-refused
returns-in_err-ask_mechanisms-clause-refused c =
    asking_refused _ c.args.self.now.options (option_copied c.args.credential) _ c.in_ok-hello.hello.body (ap (λ hello. hello.body) (c.in_ok-hello.ensures.copied ∙ c.args.self.now.hello_is)) (search rules)

pub returns-in_err-speculate-clause-refused : goal.returns-in_err-speculate-clause-refused
returns-in_err-speculate-clause-refused c =
    let common = ap (λ hello. hello.body) (c.in_ok-hello.ensures.copied ∙ c.args.self.now.hello_is) in
    speculating_refused _ c.args.self.now.options (option_copied c.args.credential) (option_map first_document c.args.first.now) c.ask_mechanisms.new.body (c.in_ok-ask_mechanisms.ensures.setup ∙ ap (asking_mechanisms (option_copied c.args.credential)) common) (search rules)

pub returns-clause-hello : goal.returns-clause-hello
returns-clause-hello c = search rules

pub returns-in_err-introduce_client-clause-refused : goal.returns-in_err-introduce_client-clause-refused
returns-in_err-introduce_client-clause-refused c = search rules
