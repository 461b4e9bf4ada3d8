use Rattle.std.proofs.Common.{rules, Option, None, Some, subst}
use Rattle.std.specs.Borrow.{Bor}
use Rattle.mongo_session.specs.Started.{FindsAccount}
use Rattle.mongo_session.specs.declared.serve_settings.Account.{Account}
use Rattle.mongo_session.proofs.Begun.{none_suits, starts_all}
use Rattle.mongo_session.proofs.Derived.{no_rounds, none_finds, start_at_most, start_cost}
use Rattle.mongo_session.proofs.start.start_login.Goals as goal

pub returns-in-Some : goal.returns-in-Some
returns-in-Some g c =
    let settings = c.args.settings.now in
    let start = c.args.start in
    let version = c.in-Some-Some.version in
    let message = c.in-Some-Some.payload in
    let version_is = c.in-Some-Some.is-0 in
    let message_is = c.in-Some-Some.is-1 in
    let account = c.in-Some.account in
    let found : FindsAccount settings.accounts version message.now (Some account) =
    subst (λ accounts. FindsAccount accounts version message.now (Some account)) c.as_slice.ensures (rw c.in-Some.is at c.in_ok-account.ensures) in
    record {
      opened = starts_all settings start version message version_is message_is account.now c.as_str.result.now found c.as_str.ensures c.start_for.result c.start_for.ensures.opened;
      refused = c.start_for.ensures.refused;
      cost = start_cost settings start version message version_is message_is account.now found c.args.steps.now c.start_for.new.steps c.start_for.result c.start_for.ensures.cost;
      at_most = start_at_most settings start version message version_is message_is account.now found c.args.steps.now c.start_for.new.steps c.start_for.result c.start_for.ensures.at_most;
    }

pub returns-in-None : goal.returns-in-None
returns-in-None g c =
    let settings = c.args.settings.now in
    let start = c.args.start in
    let version = c.in-Some-Some.version in
    let message = c.in-Some-Some.payload in
    let version_is = c.in-Some-Some.is-0 in
    let message_is = c.in-Some-Some.is-1 in
    let none : Option (Bor Account) = None in
    let found : FindsAccount settings.accounts version message.now none =
    subst (λ accounts. FindsAccount accounts version message.now none) c.as_slice.ensures (rw c.in-None.is at c.in_ok-account.ensures) in
    record {
      opened = none_suits settings start version message version_is message_is found;
      refused = tt;
      cost = no_rounds settings start c.args.steps.now (none_finds settings start version message version_is message_is found);
      at_most = tt;
    }

pub returns-in_default-clause-opened : goal.returns-in_default-clause-opened
returns-in_default-clause-opened g c = search rules

pub returns-in_default-clause-cost : goal.returns-in_default-clause-cost
returns-in_default-clause-cost g c = no_rounds c.args.settings.now c.args.start c.args.steps.now (search rules)
