use Rattle.mongo_bson.proofs.Splits.{element_from, element_splits}
use Rattle.mongo_bson_tests.proofs.tests.plain_reader.is_element.Goals as goal

pub returns-in-Some : goal.returns-in-Some
returns-in-Some c =
    let bytes = c.args.bytes.now in
    let rest = c.in-Some.rest.now in
    let kind = c.in-Some.kind.now in
    let parts = c.in-Some.ensures.cases.0 in
    (λ yes. element_from bytes rest kind parts (c.is_key_and_value.ensures.0 yes), λ is. c.is_key_and_value.ensures.1 (element_splits bytes rest kind parts is))
