use Rattle.std.proofs.Common.{length, subst}
use Rattle.mongo_service.specs.Run.{ServeRunEnds}
use Rattle.mongo_service.proofs.run.run_counted.Goals as goal

pub returns : goal.returns
returns g c = (
  c.run.new.steps,
  subst (λ n. ServeRunEnds (length c.args.words.now) (record {
    old = g.L.Outside.state c.args.link.now;
    new = g.L.Outside.state c.run.new.link;
    report_old = g.K.Outside.state c.args.report.now;
    report_new = g.K.Outside.state c.run.new.report;
    steps_old = n;
    steps_new = c.run.new.steps;
  }) c.run.result) c.new-steps.ensures c.run.ensures.ends,
)
