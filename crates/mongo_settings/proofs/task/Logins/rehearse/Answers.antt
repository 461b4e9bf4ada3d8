use Rattle.std.proofs.Common.{sym, subst, IfOk}
use Rattle.mongo_settings.specs.Task.{asks_of, Reports, steps_of}
use Rattle.mongo_settings.proofs.task.Logins.rehearse.Goals as goal

pub returns-in-One-clause-reported : goal.returns-in-One-clause-reported
returns-in-One-clause-reported g c =
    let steps = steps_of c.args.steps.now c.rehearse.new.steps in
    subst (λ logins. IfOk c.rehearse.result (λ rehearsal. Reports (asks_of logins) steps rehearsal.status rehearsal.report.items)) (sym c.in-One.is) c.rehearse.ensures.reported
