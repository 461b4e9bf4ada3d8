use Rattle.std.proofs.Common.{arith}
use Rattle.std.proofs.lemmas.Bool.{false≢true}
use Rattle.mongo_bson.specs.Document.{IsCstring}
use Rattle.mongo_bson.proofs.Splits.{IsZeroAndValue, splits_nowhere, key_and_value_splits}
use Rattle.mongo_bson_tests.proofs.tests.plain_reader.is_key_and_value.Goals as goal

pub returns : goal.returns
returns c =
    let bytes = c.args.bytes.now in
    let kind = c.args.kind in
    (λ f. absurd (false≢true f), λ is. absurd (splits_nowhere IsCstring (IsZeroAndValue kind) bytes c.loop-end.end (omega arith) c.loop-end.invariant (key_and_value_splits kind bytes is)))
