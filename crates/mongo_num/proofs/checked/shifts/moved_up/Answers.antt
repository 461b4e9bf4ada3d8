use Rattle.mongo_num.proofs.ExactLemmas.{passed_is, passed_narrow, shifted_one, moved_up_fits}
use Rattle.mongo_num.proofs.checked.shifts.moved_up.Goals as goal

pub overflow_mul-result : goal.overflow_mul-result
overflow_mul-result c =
    rw (passed_narrow c.args.n c.requires.narrow, shifted_one c.args.places c.requires.below)
    (moved_up_fits c.args.n c.args.places c.requires.narrow c.requires.below)

pub returns : goal.returns
returns c =
    rw (passed_narrow c.args.n c.requires.narrow, shifted_one c.args.places c.requires.below)
    (passed_is _ (moved_up_fits c.args.n c.args.places c.requires.narrow c.requires.below))
