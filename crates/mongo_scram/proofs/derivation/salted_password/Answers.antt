use Rattle.mongo_scram.proofs.Derived.{entry_found, derived_anew}
use Rattle.mongo_scram.proofs.derivation.salted_password.Goals as goal

pub returns-in-Some-clause-derived : goal.returns-in-Some-clause-derived
returns-in-Some-clause-derived g c = entry_found c.args.key.now c.args.steps.now c.args.cache.now c.in-Some.salted.now c.in-Some.ensures.found

pub returns-in-None-clause-derived : goal.returns-in-None-clause-derived
returns-in-None-clause-derived g c = derived_anew c.derive.result c.args.key.now _ _ c.in-None.ensures.absent c.derive.ensures.counts
