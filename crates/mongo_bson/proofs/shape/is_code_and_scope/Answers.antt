use Rattle.std.proofs.Common.{subst, sym}
use Rattle.mongo_bson.specs.Framed.{IsFramed}
use Rattle.mongo_bson.proofs.Shapes.{code_then_scope, scope_of_code}
use Rattle.mongo_bson.proofs.shape.is_code_and_scope.Goals as goal

pub returns-in-Some : goal.returns-in-Some
returns-in-Some c =
    let bytes = c.args.bytes.now in
    let size = c.in-Some.size in
    (λ true. code_then_scope bytes size c.in-Some.ensures (subst IsFramed c.split_at.ensures.back (c.is_framed.ensures.0 true)), λ both. c.is_framed.ensures.1 (subst IsFramed (sym c.split_at.ensures.back) (scope_of_code bytes size c.in-Some.ensures both)))
