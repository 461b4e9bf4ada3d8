use Rattle.mongo_scram.proofs.Derived.{costs_nothing, on_refused}
use Rattle.mongo_scram.proofs.derivation.answer.Goals as goal

pub returns-in_err-validate-clause-no_cost : goal.returns-in_err-validate-clause-no_cost
returns-in_err-validate-clause-no_cost g c = on_refused c.from_residual.result _ (costs_nothing c.args.steps.now c.args.cache.now)

pub returns-in_err-key-clause-no_cost : goal.returns-in_err-key-clause-no_cost
returns-in_err-key-clause-no_cost g c = on_refused c.from_residual-in_err-key.result _ (costs_nothing c.args.steps.now c.args.cache.now)
