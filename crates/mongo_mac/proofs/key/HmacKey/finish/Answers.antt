use Rattle.std.proofs.Common.{rules}
use Rattle.mongo_mac.specs.Hmac.{mac_of}
use Rattle.mongo_mac.proofs.key.HmacKey.finish.Goals as goal

pub returns-clause-value : goal.returns-clause-value
unfolding mac_of
returns-clause-value g c = search rules
