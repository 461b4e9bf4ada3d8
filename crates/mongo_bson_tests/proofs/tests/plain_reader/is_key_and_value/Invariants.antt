use Rattle.mongo_bson.specs.Document.{IsCstring}
use Rattle.mongo_bson.proofs.Splits.{NoneBefore, IsZeroAndValue}
use Rattle.mongo_bson_tests.proofs.tests.plain_reader.is_key_and_value.Given as goal

abbrev pub invariant-loop-end : goal.invariant-loop-end
invariant-loop-end l = NoneBefore IsCstring (IsZeroAndValue l.kind) l.bytes l.end
