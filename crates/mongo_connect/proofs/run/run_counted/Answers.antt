use Rattle.std.proofs.Common.{length, subst}
use Rattle.mongo_settings.specs.Run.{run_of}
use Rattle.mongo_settings.specs.Task.{steps_of}
use Rattle.mongo_connect.specs.Run.{ConnectRunEnds}
use Rattle.mongo_connect.proofs.run.run_counted.Goals as goal

pub returns-clause-ends : goal.returns-clause-ends
returns-clause-ends g c =
    let run = run_of c.args.link c.run.result.1 c.args.report.now c.run.new.report in
    (c.run.new.steps, subst (λ n. ConnectRunEnds g.L.Outside.state g.K.Outside.state (length c.args.words.items) (steps_of n c.run.new.steps) run c.run.result.0) c.new-steps.ensures c.run.ensures.ends)
