use Rattle.std.proofs.Common.{◌∙◌}
use Rattle.mongo_session.proofs.Begun.{begins, unheard, unopened}
use Rattle.mongo_session.proofs.Derived.{at_most_derived, key_derived, none_derived}
use Rattle.mongo_session.proofs.start.start_for.Goals as goal

pub returns-in-Ok-first-clause-opened : goal.returns-in-Ok-first-clause-opened
returns-in-Ok-first-clause-opened g c =
    let answered = c.in-Ok-first.ensures.answered in
    begins c.args.account.now c.args.suffix.now c.args.payload.now c.new-core.result c.first.new.self c.in-Ok-first.answer c.in-Ok.user c.as_str.result.now c.as_str-2.result.now c.in_ok-salt.salt
    c.as_str.ensures c.as_str-2.ensures c.in_ok-salt.ensures.copied c.in-Ok.ensures.user c.new-core.ensures.user (c.new-core.ensures.suffix ∙ c.in_ok-from_slice.ensures.copied)
    c.in-Ok.ensures.usable
    answered.0 answered.1 c.in-Ok-first.ensures.accepts c.in_ok-try_clone-in-Ok-first.field-0 c.args.skips_empty_exchange c.in_ok-try_clone-in-Ok-first.ensures.copied

pub returns-in-Err-clause-opened : goal.returns-in-Err-clause-opened
returns-in-Err-clause-opened g c = unopened c.no_login.result c.args.account.now c.args.suffix.now c.args.payload.now c.args.skips_empty_exchange c.as_str-2.result.now c.in-Err.error.kind c.as_str-2.ensures c.in-Err.ensures.refused c.no_login.ensures.none

pub returns : goal.returns
returns g c = record {
  opened =
      unheard c.args.account.now c.args.suffix.now c.args.payload.now c.new-core.result c.in-Ok.user c.as_str.result.now c.as_str-2.result.now c.in_ok-salt.salt c.in-Err-first.fault c.as_str.ensures c.as_str-2.ensures
      c.in_ok-salt.ensures.copied c.in-Ok.ensures.user c.new-core.ensures.user (c.new-core.ensures.suffix ∙ c.in_ok-from_slice.ensures.copied) c.in-Err-first.ensures.accepts c.in_default.not-OutOfMemory;
  refused = tt;
  cost = key_derived c.args.account.now c.as_str-2.result.now c.as_str-2.ensures c.args.steps.now c.new.new.steps c.in-Ok.ensures.usable c.in-Ok.ensures.cost;
  at_most = tt;
}

pub returns-in-Ok-first-clause-cost : goal.returns-in-Ok-first-clause-cost
returns-in-Ok-first-clause-cost g c = key_derived c.args.account.now c.as_str-2.result.now c.as_str-2.ensures c.args.steps.now c.new.new.steps c.in-Ok.ensures.usable c.in-Ok.ensures.cost

pub returns-in-Err-clause-cost : goal.returns-in-Err-clause-cost
returns-in-Err-clause-cost g c = none_derived c.args.account.now c.as_str-2.result.now c.as_str-2.ensures c.args.steps.now c.new.new.steps c.no_login.result c.in-Err.error.kind c.in-Err.ensures.refused c.in-Err.ensures.no_cost c.no_login.ensures.none

pub returns-in-Err-clause-at_most : goal.returns-in-Err-clause-at_most
returns-in-Err-clause-at_most g c =
    at_most_derived c.args.account.now c.as_str-2.result.now c.as_str-2.ensures c.args.steps.now c.new.new.steps c.no_login.result c.in-Err.error.kind c.in-Err.ensures.refused c.in-Err.ensures.exact c.in-Err.ensures.no_cost c.new.ensures.rises c.new.ensures.at_most
