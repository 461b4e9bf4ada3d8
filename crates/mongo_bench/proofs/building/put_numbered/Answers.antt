use Rattle.std.proofs.Common.{subst, arith}
use Rattle.std.specs.List.{Contains}
use Rattle.mongo_bson.proofs.Numbered.{number_text, decimal_no_zero}
use Rattle.mongo_bench.proofs.building.put_numbered.Goals as goal

pub put-requires-clause-named : goal.put-requires-clause-named
put-requires-clause-named c = λ zero.
    decimal_no_zero c.args.number (omega arith) (subst (λ key. Contains key 0) (number_text _ _ c.args.number (omega arith) c.format.ensures.text) zero)
