use Rattle.std.proofs.Common.{rules}
use Rattle.mongo_bson.proofs.raw_document.RawDocument.get.Goals as goal

pub returns-in-Ok-Some-clause-found : goal.returns-in-Ok-Some-clause-found
returns-in-Ok-Some-clause-found c = search rules
