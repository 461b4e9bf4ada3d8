use Rattle.std.proofs.Common.{arith}
use Rattle.std.proofs.lemmas.Bool.{false≢true}
use Rattle.mongo_bson.specs.Framed.{IsFramed}
use Rattle.mongo_bson.specs.Document.{IsString}
use Rattle.mongo_bson.proofs.Splits.{splits_nowhere, code_and_scope_splits}
use Rattle.mongo_bson_tests.proofs.tests.plain_reader.is_code_and_scope.Goals as goal

pub returns : goal.returns
returns c =
    let bytes = c.args.bytes.now in
    (λ f. absurd (false≢true f), λ is. absurd (splits_nowhere IsString IsFramed bytes c.loop-end.end (omega arith) c.loop-end.invariant (code_and_scope_splits bytes is)))
