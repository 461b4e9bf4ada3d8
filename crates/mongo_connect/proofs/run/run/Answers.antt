use Rattle.std.proofs.Common.{length}
use Rattle.mongo_settings.specs.Run.{run_of}
use Rattle.mongo_settings.specs.Task.{steps_of}
use Rattle.mongo_connect.proofs.Ends.{decided}
use Rattle.mongo_connect.proofs.run.run.Goals as goal

pub returns-then-is_empty-clause-decided : goal.returns-then-is_empty-clause-decided
returns-then-is_empty-clause-decided g c =
    let run = run_of c.args.link c.run_line.result.1 c.args.report.now c.run_line.new.report in
    decided g.L.Outside.state g.K.Outside.state (steps_of c.args.steps.now c.run_line.new.steps) run (length c.args.words.items) c.run_line.result.0 c.run_line.ensures.ends
