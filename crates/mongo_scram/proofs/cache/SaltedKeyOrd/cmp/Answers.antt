use Rattle.std.proofs.Common.{rules}
use Rattle.mongo_scram.proofs.cache.SaltedKeyOrd.cmp.Goals as goal

pub returns : goal.returns
returns c = search rules
