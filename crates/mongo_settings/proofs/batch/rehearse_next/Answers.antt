use Rattle.std.proofs.Common.{rules, ◌++◌, ◌∙◌, ap}
use Rattle.mongo_settings.proofs.batch.rehearse_next.Goals as goal

pub returns-clause-joined : goal.returns-clause-joined
returns-clause-joined g c = record {
  rehearsal = c.in_ok-rehearsal.rehearsal;
  cost = c.in_ok-rehearsal.ensures.cost;
  report = c.in_ok-extend_from_slice.ensures.items ∙ ap (λ text. c.args.batch.now.report.items ++ text) (search rules);
  status = c.and-batch.ensures;
}
