use Rattle.mongo_bson.specs.Framed.{IsFramed}
use Rattle.mongo_bson.specs.Document.{IsString}
use Rattle.mongo_bson.proofs.Splits.{NoneBefore}
use Rattle.mongo_bson_tests.proofs.tests.plain_reader.is_code_and_scope.Given as goal

abbrev pub invariant-loop-end : goal.invariant-loop-end
invariant-loop-end l = NoneBefore IsString IsFramed l.bytes l.end
