use Rattle.std.proofs.Common.{rules}
use Rattle.mongo_scram.proofs.keys.Keys.proof.Goals as goal

pub returns : goal.returns
returns c = search rules
