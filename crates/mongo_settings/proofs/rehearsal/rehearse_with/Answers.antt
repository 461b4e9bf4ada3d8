use Rattle.std.proofs.Common.{◌≡◌, ◌≤◌, ◌-◌, ◌∙◌, ap, sym, refl, Some, [], drop, length, arith}
use Rattle.mongo_wire.specs.Memory.{bytes_left}
use Rattle.mongo_settings.proofs.Rehearsing.{Replayed, described, rehearsed, never_rose}
use Rattle.mongo_settings.proofs.Shrinking.{left_within}
use Rattle.mongo_settings.proofs.RehearsalCosts.{cost}
use Rattle.mongo_settings.proofs.rehearsal.rehearse_with.Goals as goal

pub overflow_sub-taken : goal.overflow_sub-taken
overflow_sub-taken g c =
    let replies = bytes_left c.new-link.result in
    let rest = bytes_left c.connect-ended.new.link in
    let how = c.connect-ended.ensures.ended in
    let within : length rest ≤ length replies = left_within _ _ _ _ _ _ _ replies rest c.connect-ended.result how.established how.refused refl refl in
    let before : length c.left-total.result.now ≡ length replies = ap length c.left-total.ensures in
    let after : length c.left.result.now ≡ length rest = ap length c.left.ensures in
    omega (arith, within, before, after)

pub report_outcome-requires : goal.report_outcome-requires
report_outcome-requires g c = record { described = described _ _ _ _ _ _ _ c.connect-ended.result c.connect-ended.ensures.ended.established }

pub returns-clause-cost : goal.returns-clause-cost
returns-clause-cost g c =
    let settings = c.args.settings in
    let ready = c.in_ok-login.ensures in
    let new = c.new-link in
    let link = c.connect-ended.new.link in
    let ended = c.connect-ended.result in
    let how = c.connect-ended.ensures.ended in
    let written = c.written.result.now in
    let taken = length c.left-total.result.now - length c.left.result.now in
    let given : bytes_left new.result ≡ settings.replies = ap (λ n. drop n new.result.input.items) new.ensures.at ∙ new.ensures.input ∙ ready.replies in
    let replayed : Replayed settings.replies written (bytes_left link) _ _ = record {
      front = [];
      before = ap Some new.ensures.output;
      given = ap Some given;
      written_is = ap Some (sym c.written.ensures);
      left_is = refl;
      unfailed = record { reads = never_rose; writes = never_rose };
    } in
    let count : taken ≡ length settings.replies - length (bytes_left link) = ap (λ l. length l - length c.left.result.now) (c.left-total.ensures ∙ given)
    ∙ ap (λ l. length settings.replies - length l) c.left.ensures in
    cost settings _ _ _ _ _ written (bytes_left link) taken ended c.report_outcome.result ready.login.setup how.led replayed c.report_outcome.ensures.told
    (rehearsed _ settings _ _ _ _ _ _ written (bytes_left link) taken ended c.report_outcome.result ready.login.setup how.established how.refused replayed count c.report_outcome.ensures.told)
