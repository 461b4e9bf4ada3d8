use Rattle.mongo_bson.proofs.Found.{broken_no_document}
use Rattle.mongo_command.proofs.FirstOfKey.{value_found}
use Rattle.mongo_command.proofs.lookup.value_in.Goals as goal

pub unreachable-requires : goal.unreachable-requires
unreachable-requires c = c.requires (λ elements is. broken_no_document c.args.document.bytes.now c.args.key.now elements is c.in-Err.ensures.malformed.1)

pub returns : goal.returns
returns c = λ elements is. value_found c.args.document.bytes.now c.args.key.now elements c.in-Ok.found is c.in-Ok.ensures.found
