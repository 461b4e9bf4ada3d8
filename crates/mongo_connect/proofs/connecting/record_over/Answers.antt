use Rattle.std.proofs.Common.{rules}
use Rattle.mongo_connect.proofs.connecting.record_over.Goals as goal

pub returns-clause-told : goal.returns-clause-told
returns-clause-told g c = search rules

pub returns-clause-untold : goal.returns-clause-untold
returns-clause-untold g c = search rules
