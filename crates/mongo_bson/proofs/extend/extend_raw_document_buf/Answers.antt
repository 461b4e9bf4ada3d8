use Rattle.std.proofs.Common.{rules}
use Rattle.mongo_bson.specs.Merge.{ShareNoKey}
use Rattle.mongo_bson.proofs.OneAnswer.{no_duplicate}
use Rattle.mongo_bson.proofs.extend.extend_raw_document_buf.Goals as goal

pub returns-in-Ok-false-clause-duplicate_key : goal.returns-in-Ok-false-clause-duplicate_key
returns-in-Ok-false-clause-duplicate_key c =
    let this = c.args.this.now in
    let other = c.args.other.now in
    let none : ShareNoKey this other = search rules in
    no_duplicate this other c.append_elements.result none c.append_elements.ensures.refused

pub returns-in-Ok-true-clause-malformed : goal.returns-in-Ok-true-clause-malformed
returns-in-Ok-true-clause-malformed c = search rules

pub returns-in-Ok-true-clause-duplicate_key : goal.returns-in-Ok-true-clause-duplicate_key
returns-in-Ok-true-clause-duplicate_key c = search rules
