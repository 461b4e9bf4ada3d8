use Rattle.mongo_bson.specs.Document.{IsCstring}
use Rattle.mongo_bson.proofs.Splits.{NoneBefore, IsTextBetweenZeros}
use Rattle.mongo_bson_tests.proofs.tests.plain_reader.is_regular_expression.Given as goal

abbrev pub invariant-loop-end : goal.invariant-loop-end
invariant-loop-end l = NoneBefore IsCstring IsTextBetweenZeros l.bytes l.end
