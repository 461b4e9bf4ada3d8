use Rattle.std.proofs.Common.{None, Some}
use Rattle.mongo_bson.specs.Find.{FindsValue}
use Rattle.mongo_bson.specs.Framed.{element_bytes}
use Rattle.mongo_sasl.specs.Keys.{payload_key}
use Rattle.mongo_generate.proofs.Payloads.{payload_found, payload_absent, payload_broken}
use Rattle.mongo_generate.proofs.written.copied_payload.Goals as goal

pub binary_content-requires : goal.binary_content-requires
binary_content-requires c =
    let document = c.args.document.bytes.now in
    let found : FindsValue (element_bytes document) payload_key (Some c.in-Ok-Some.value) = rw c.in-Ok-Some.field-0-is at c.in-Ok-Some.ensures.found in
    record { binary = (c.requires.carried.0, payload_found document c.requires.carried.0 c.in-Ok-Some.value c.requires.carried.1 found) }

pub returns : goal.returns
returns c =
    let document = c.args.document.bytes.now in
    let found : FindsValue (element_bytes document) payload_key (Some c.in-Ok-Some.value) = rw c.in-Ok-Some.field-0-is at c.in-Ok-Some.ensures.found in
    record { found = λ payload carries. c.binary_content.ensures.found payload (payload_found document payload c.in-Ok-Some.value carries found) }

pub unreachable-requires : goal.unreachable-requires
unreachable-requires c =
    let document = c.args.document.bytes.now in
    let found : FindsValue (element_bytes document) payload_key None = rw c.in-Ok-None.field-0-is at c.in-Ok-None.ensures.found in
    payload_absent document c.requires.carried.0 c.requires.carried.1 found

pub unreachable-requires-in-Err : goal.unreachable-requires-in-Err
unreachable-requires-in-Err c = payload_broken c.args.document.bytes.now c.requires.carried.0 c.requires.carried.1 c.in-Err.ensures.malformed.1
