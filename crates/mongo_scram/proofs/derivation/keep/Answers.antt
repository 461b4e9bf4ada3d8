use Rattle.mongo_scram.proofs.Derived.{added_salted}
use Rattle.mongo_scram.proofs.derivation.keep.Goals as goal

pub returns-in-None-clause-kept : goal.returns-in-None-clause-kept
returns-in-None-clause-kept c = added_salted _ c.insert.result _ _ _ _ c.requires.salted c.insert.ensures.added
