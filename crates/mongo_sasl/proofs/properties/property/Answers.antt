use Rattle.mongo_command.proofs.FirstOfKey.{value_found, readable_unbroken}
use Rattle.mongo_sasl.proofs.properties.property.Goals as goal

pub unreachable-requires : goal.unreachable-requires
unreachable-requires c = readable_unbroken c.args.properties.bytes.now c.args.name.now c.requires c.in-Err.ensures.malformed.1

pub returns : goal.returns
returns c = λ elements is. value_found c.args.properties.bytes.now c.args.name.now elements c.in-Ok.value is c.in-Ok.ensures.found
