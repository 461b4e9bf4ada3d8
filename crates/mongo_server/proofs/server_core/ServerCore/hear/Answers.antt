use Rattle.std.proofs.Common.{◌≡◌, subst, ap, ◌∙◌, rules}
use Rattle.mongo_scram.specs.Messages.{bare_message}
use Rattle.mongo_server.specs.ClientMessages.{IsClientFirst}
use Rattle.mongo_server.specs.Parsed.{HoldsClientFirst}
use Rattle.mongo_server.proofs.ServerRows.{heard_of}
use Rattle.mongo_server.proofs.server_core.ServerCore.hear.Goals as goal

pub returns-clause-heard : goal.returns-clause-heard
returns-clause-heard c =
    let core = c.args.self.now in
    let message = c.args.client_first.now in
    let first = c.in-Some.message in
    let holds : HoldsClientFirst message first = search rules in
    let same : first.saslname.now ≡ core.user.saslname = search rules in
    let named = heard_of core message holds.username first.nonce.now first.saslname.now holds.is_first holds.saslname_is same in
    record {
      is_first = subst (λ name. IsClientFirst message name first.nonce.now) named holds.is_first;
      bare_is = holds.bare_is ∙ ap (λ name. bare_message name first.nonce.now) named;
    }

pub returns-then-ne-clause-refused : goal.returns-then-ne-clause-refused
returns-then-ne-clause-refused c = search rules
