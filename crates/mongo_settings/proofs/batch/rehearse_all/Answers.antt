use Rattle.std.proofs.Common.{rules, ◌≤◌, ◌++◌, ◌∙◌, ap, refl, sym, subst, length}
use Rattle.std.proofs.lemmas.List.{map-id}
use Rattle.std.proofs.lemmas.Iterator.Adapters.{YieldsList-from_vec}
use Rattle.std.proofs.lemmas.Iterator.Consumers.{YieldsList-turn, YieldsList-end}
use Rattle.mongo_scram.specs.Costs.{ledgers}
use Rattle.mongo_settings.specs.Batch.{IsLoginSpoken, rounds_line}
use Rattle.mongo_settings.proofs.Sharing.{Shared, shared_none, shared_more, shared_report}
use Rattle.mongo_settings.proofs.batch.rehearse_all.Goals as goal

pub loop-settings-init : goal.loop-settings-init
loop-settings-init g c =
    let new = c.new-state in
    let rises : c.args.steps.now ≤ c.args.steps.now = search rules in
    record { shared = shared_none c.args.steps.now _ (ledgers c.args.steps.now new.result.salted) refl c.new.ensures.items refl new.ensures.entries new.ensures.rounds; rises = rises }

pub rehearse_next-requires : goal.rehearse_next-requires
rehearse_next-requires g c =
    let b = c.into_iter-settings-iterator.ensures.into_iter_gives in
    let e = c.into_vec-settings-items.ensures in
    let all = YieldsList-from_vec {s = c.into_iter-settings-iterator.result} c.args.logins (b.0 ∙ e) (b.1 ∙ c.into_vec-settings-items.result.ok.0 ∙ ap length e) in
    let turn = YieldsList-turn all c.loop-settings.yielded c.loop-settings.settings-iterator c.loop-settings.yielded_by c.next.result c.next.new.self c.in-Some.settings c.in-Some.is c.next.ensures.steps in
    record { spoken = subst IsLoginSpoken (sym turn.1) (c.requires.spoken (length c.loop-settings.yielded) c.in-Some.settings turn.0) }

pub loop-settings-preserved : goal.loop-settings-preserved
loop-settings-preserved g c = record {
  shared = shared_more c.args.steps.now c.loop-settings.yielded c.in-Some.settings c.loop-settings.batch c.rehearse_next.new.batch (ledgers c.loop-settings.steps c.loop-settings.state.salted) (ledgers c.rehearse_next.new.steps c.rehearse_next.new.state.salted) c.loop-settings.invariant.shared c.in_ok-rehearse_next.ensures.joined;
  rises = search rules;
}

pub returns-clause-batch : goal.returns-clause-batch
returns-clause-batch g c =
    let b = c.into_iter-settings-iterator.ensures.into_iter_gives in
    let e = c.into_vec-settings-items.ensures in
    let all = YieldsList-from_vec {s = c.into_iter-settings-iterator.result} c.args.logins (b.0 ∙ e) (b.1 ∙ c.into_vec-settings-items.result.ok.0 ∙ ap length e) in
    let end = YieldsList-end all c.loop-settings.yielded c.loop-settings.settings-iterator c.loop-settings.yielded_by c.next.result c.next.new.self c.in-None.is c.next.ensures.steps in
    let now = ledgers c.loop-settings.steps c.loop-settings.state.salted in
    shared_report c.args.steps.now c.args.logins c.loop-settings.batch now c.push_rounds.new.out.items
    (subst (λ front. Shared c.args.steps.now front c.loop-settings.batch now) (sym (map-id c.loop-settings.yielded) ∙ end.0) c.loop-settings.invariant.shared)
    (c.in_ok-push_rounds.ensures ∙ ap (λ n. c.loop-settings.batch.report.items ++ rounds_line n) c.rounds.ensures)
