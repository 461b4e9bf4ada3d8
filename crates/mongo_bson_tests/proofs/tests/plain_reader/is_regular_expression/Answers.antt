use Rattle.std.proofs.Common.{arith}
use Rattle.std.proofs.lemmas.Bool.{false≢true}
use Rattle.mongo_bson.specs.Document.{IsCstring}
use Rattle.mongo_bson.proofs.Splits.{IsTextBetweenZeros, splits_nowhere, regular_expression_splits}
use Rattle.mongo_bson_tests.proofs.tests.plain_reader.is_regular_expression.Goals as goal

pub returns : goal.returns
returns c =
    let bytes = c.args.bytes.now in
    (λ f. absurd (false≢true f), λ is. absurd (splits_nowhere IsCstring IsTextBetweenZeros bytes c.loop-end.end (omega arith) c.loop-end.invariant (regular_expression_splits bytes is)))
