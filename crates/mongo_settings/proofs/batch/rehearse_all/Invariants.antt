use Rattle.std.proofs.Common.{◌≤◌}
use Rattle.mongo_scram.specs.Costs.{ledgers}
use Rattle.mongo_settings.proofs.Sharing.{Shared}
use Rattle.mongo_settings.proofs.batch.rehearse_all.Given as goal

abbrev pub invariant-loop-settings : goal.invariant-loop-settings
invariant-loop-settings g l = record {
  shared : Shared l.fn.steps l.yielded l.batch (ledgers l.steps l.state.salted);
  rises : l.fn.steps ≤ l.steps;
}
