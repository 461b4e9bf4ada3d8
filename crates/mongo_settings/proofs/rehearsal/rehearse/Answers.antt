use Rattle.mongo_scram.specs.Costs.{ledgers}
use Rattle.mongo_settings.proofs.OneReport.{only_report}
use Rattle.mongo_settings.proofs.RehearsalCosts.{alone, reports_alone}
use Rattle.mongo_settings.proofs.rehearsal.rehearse.Goals as goal

pub returns-clause-reported : goal.returns-clause-reported
returns-clause-reported g c =
    let first = ledgers c.args.steps.now c.new-state.result.salted in
    let last = ledgers c.rehearse_with.new.steps c.rehearse_with.new.state.salted in
    reports_alone c.args.settings first last c.rehearse_with.result c.new-state.ensures.entries c.rehearse_with.ensures.cost

pub returns-clause-only : goal.returns-clause-only
returns-clause-only g c = only_report c.args.settings c.rehearse_with.result (alone c.args.settings _ _ c.rehearse_with.result c.rehearse_with.ensures.cost)
