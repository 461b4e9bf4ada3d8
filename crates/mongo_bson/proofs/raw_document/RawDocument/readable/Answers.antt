use Rattle.std.proofs.Common.{rules}
use Rattle.mongo_bson.proofs.raw_document.RawDocument.readable.Goals as goal

pub returns : goal.returns
returns c = search rules
