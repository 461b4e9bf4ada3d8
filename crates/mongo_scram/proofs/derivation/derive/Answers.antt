use Rattle.mongo_scram.proofs.Derived.{nothing_counted, on_refused}
use Rattle.mongo_scram.proofs.derivation.derive.Goals as goal

pub returns-in_err-tag-clause-no_cost : goal.returns-in_err-tag-clause-no_cost
returns-in_err-tag-clause-no_cost g c = on_refused c.from_residual.result _ (nothing_counted _ _ c.args.cache.now c.in_err-tag.ensures.no_cost)
