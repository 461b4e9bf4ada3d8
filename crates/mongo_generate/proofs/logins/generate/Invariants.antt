use Rattle.std.proofs.Common.{◌≤◌}
use Rattle.mongo_scram.specs.Costs.{ledgers}
use Rattle.mongo_generate.proofs.SoFar.{SoFar}
use Rattle.mongo_generate.proofs.logins.generate.Given as goal

abbrev pub invariant-loop-number : goal.invariant-loop-number
invariant-loop-number g l = record {
  so_far : SoFar l.fn.steps l.number l.accepted l.hasher (ledgers l.steps l.state.salted);
  rises : l.fn.steps ≤ l.steps;
}
