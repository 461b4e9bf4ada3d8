use Rattle.std.proofs.Common.{◌≡◌, sym, ◌∙◌, rules}
use Rattle.mongo_sasl.specs.Credential.{user_of_admin}
use Rattle.mongo_sasl.proofs.Negotiated.{asked}
use Rattle.mongo_sasl.proofs.credential.Credential.append_needed_mechanism_negotiation.Goals as goal

pub returns-clause-negotiated : goal.returns-clause-negotiated
returns-clause-negotiated c =
    let says : c.as_str.result.now ≡ user_of_admin c.in-Some.username = search rules in
    asked c.in-Some.username c.as_str.result.now c.args.self.now.username c.args.self.now.mechanism c.args.command.now c.append.new.self c.in-Some.is (sym c.is_some.ensures ∙ c.if-is_some.false) says c.in_ok-append.ensures.added

pub returns-then-is_some-clause-negotiated : goal.returns-then-is_some-clause-negotiated
returns-then-is_some-clause-negotiated c = search rules

pub returns-in_err-append-clause-refused : goal.returns-in_err-append-clause-refused
returns-in_err-append-clause-refused c = search rules
