use Rattle.mongo_bson.specs.Reading.{element_read}
use Rattle.mongo_bson.proofs.Levels.{scope_inside}
use Rattle.mongo_bson.proofs.readable.document_inside.Goals as goal

pub returns-in-15 : goal.returns-in-15
returns-in-15 c = scope_inside (element_read c.args.element) c.scope_of.result.now c.in-15.is c.scope_of.ensures
