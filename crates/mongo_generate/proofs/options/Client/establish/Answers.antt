use Rattle.std.proofs.Common.{◌∙◌, Some, drop, sym, ap, subst}
use Rattle.mongo_scram.specs.Costs.{ledgers}
use Rattle.mongo_establish.specs.Options.{options_of_establisher}
use Rattle.mongo_establish.proofs.Counting.{costs_some, some_rise}
use Rattle.mongo_generate.specs.Acceptance.{IsAcceptedAs}
use Rattle.mongo_generate.proofs.Accepted.{speaks}
use Rattle.mongo_generate.proofs.Outcomes.{no_fault, never_refused, has_its_script, accepted_writes, accepted_carries, accepted_takes, keeps_entries, keeps_still}
use Rattle.mongo_generate.proofs.options.Client.establish.Goals as goal

pub establish_connection-ended-requires : goal.establish_connection-ended-requires
establish_connection-ended-requires g c = record { spoken = speaks c.args.login.now.credential.mechanism c.args.login.now.scram }

pub returns-in_err-is_accepted-clause-steps : goal.returns-in_err-is_accepted-clause-steps
returns-in_err-is_accepted-clause-steps g c =
    let made = c.establish_connection-ended in
    some_rise _ _ (costs_some _ made.result _ _ _ _ _ _ made.ensures.ended.established made.ensures.ended.refused)

pub returns-then-not-branch-clause-written : goal.returns-then-not-branch-clause-written
returns-then-not-branch-clause-written g c = λ x logs heard.
    let made = c.establish_connection-ended in
    let link = c.new-link in
    let told = ap Some (ap (λ n. drop n link.result.input.items) link.ensures.at ∙ link.ensures.input) in
    let script = has_its_script c.in_ok-pending.pending (options_of_establisher c.args.self.now.establisher) c.new-state.result x c.args.login.now c.args.replies logs heard c.in_ok-pending.ensures.generation c.args.self.now.options c.new-state.ensures in
    never_refused made.result (made.ensures.ended.complete c.args.replies told script (record { reads = no_fault; writes = no_fault })) (subst (IsAcceptedAs made.result) c.if-not-branch.true c.in_ok-is_accepted.ensures)

pub returns-then-not-branch-clause-takes : goal.returns-then-not-branch-clause-takes
returns-then-not-branch-clause-takes g c = λ x logs heard.
    let made = c.establish_connection-ended in
    let link = c.new-link in
    let told = ap Some (ap (λ n. drop n link.result.input.items) link.ensures.at ∙ link.ensures.input) in
    let script = has_its_script c.in_ok-pending.pending (options_of_establisher c.args.self.now.establisher) c.new-state.result x c.args.login.now c.args.replies logs heard c.in_ok-pending.ensures.generation c.args.self.now.options c.new-state.ensures in
    absurd (never_refused made.result (made.ensures.ended.complete c.args.replies told script (record { reads = no_fault; writes = no_fault })) (subst (IsAcceptedAs made.result) c.if-not-branch.true c.in_ok-is_accepted.ensures))

pub returns-then-not-branch-clause-steps : goal.returns-then-not-branch-clause-steps
returns-then-not-branch-clause-steps g c =
    let made = c.establish_connection-ended in
    some_rise _ _ (costs_some _ made.result _ _ _ _ _ _ made.ensures.ended.established made.ensures.ended.refused)

pub returns-clause-written : goal.returns-clause-written
returns-clause-written g c = λ x logs heard.
    let made = c.establish_connection-ended in
    let link = c.new-link in
    let told = ap Some (ap (λ n. drop n link.result.input.items) link.ensures.at ∙ link.ensures.input) in
    accepted_writes c.in_ok-pending.pending (options_of_establisher c.args.self.now.establisher) c.new-state.result x c.args.login.now c.args.replies logs heard c.in_ok-pending.ensures.generation c.args.self.now.options c.new-state.ensures
    _ made.result _ _ _ _ _ c.into_written.result (subst (IsAcceptedAs made.result) c.if-not-branch.false c.in_ok-is_accepted.ensures) made.ensures.ended.established told (ap Some link.ensures.output) (ap Some (sym c.into_written.ensures))

pub returns-clause-carried : goal.returns-clause-carried
returns-clause-carried g c =
    let made = c.establish_connection-ended in
    let link = c.new-link in
    let told = ap Some (ap (λ n. drop n link.result.input.items) link.ensures.at ∙ link.ensures.input) in
    accepted_carries _ c.in_ok-pending.pending (options_of_establisher c.args.self.now.establisher) c.new-state.result c.args.login.now c.args.replies c.requires.replies c.args.self.now.options c.args.login.now.scram c.args.login.now.admin
    made.result _ _ _ _ _ c.into_written.result (subst (IsAcceptedAs made.result) c.if-not-branch.false c.in_ok-is_accepted.ensures) made.ensures.ended.established told (ap Some link.ensures.output) (ap Some (sym c.into_written.ensures))

pub returns-clause-takes : goal.returns-clause-takes
returns-clause-takes g c = λ x logs heard.
    let made = c.establish_connection-ended in
    let link = c.new-link in
    let told = ap Some (ap (λ n. drop n link.result.input.items) link.ensures.at ∙ link.ensures.input) in
    accepted_takes c.in_ok-pending.pending (options_of_establisher c.args.self.now.establisher) c.new-state.result x c.args.login.now c.args.replies logs heard c.in_ok-pending.ensures.generation c.args.self.now.options c.new-state.ensures
    made.result (ledgers c.args.steps.now c.args.state.now.salted) (ledgers made.new.steps made.new.state.salted) (subst (IsAcceptedAs made.result) c.if-not-branch.false c.in_ok-is_accepted.ensures) (made.ensures.ended.led.over c.args.replies told (record { reads = no_fault; writes = no_fault }))

pub returns-clause-steps : goal.returns-clause-steps
returns-clause-steps g c =
    let made = c.establish_connection-ended in
    some_rise _ _ (costs_some _ made.result _ _ _ _ _ _ made.ensures.ended.established made.ensures.ended.refused)

pub returns-in_err-is_accepted-clause-keeps : goal.returns-in_err-is_accepted-clause-keeps
returns-in_err-is_accepted-clause-keeps g c =
    let made = c.establish_connection-ended in
    let link = c.new-link in
    let told = ap Some (ap (λ n. drop n link.result.input.items) link.ensures.at ∙ link.ensures.input) in
    keeps_entries made.result _ c.args.replies _ _ (costs_some _ made.result _ _ _ _ _ _ made.ensures.ended.established made.ensures.ended.refused) (made.ensures.ended.led.over c.args.replies told (record { reads = no_fault; writes = no_fault })) made.ensures.ended.entries

pub returns-then-not-branch-clause-keeps : goal.returns-then-not-branch-clause-keeps
returns-then-not-branch-clause-keeps g c =
    let made = c.establish_connection-ended in
    let link = c.new-link in
    let told = ap Some (ap (λ n. drop n link.result.input.items) link.ensures.at ∙ link.ensures.input) in
    keeps_entries made.result _ c.args.replies _ _ (costs_some _ made.result _ _ _ _ _ _ made.ensures.ended.established made.ensures.ended.refused) (made.ensures.ended.led.over c.args.replies told (record { reads = no_fault; writes = no_fault })) made.ensures.ended.entries

pub returns-clause-keeps : goal.returns-clause-keeps
returns-clause-keeps g c =
    let made = c.establish_connection-ended in
    let link = c.new-link in
    let told = ap Some (ap (λ n. drop n link.result.input.items) link.ensures.at ∙ link.ensures.input) in
    keeps_entries made.result _ c.args.replies _ _ (costs_some _ made.result _ _ _ _ _ _ made.ensures.ended.established made.ensures.ended.refused) (made.ensures.ended.led.over c.args.replies told (record { reads = no_fault; writes = no_fault })) made.ensures.ended.entries

pub returns-in_err-pending-clause-keeps : goal.returns-in_err-pending-clause-keeps
returns-in_err-pending-clause-keeps g c = keeps_still c.args.steps.now c.args.state.now.salted
