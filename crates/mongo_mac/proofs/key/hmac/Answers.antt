use Rattle.std.proofs.Common.{rules}
use Rattle.mongo_mac.proofs.Keys.{mac_of-pads_of}
use Rattle.mongo_mac.proofs.key.hmac.Goals as goal

pub returns-clause-value : goal.returns-clause-value
returns-clause-value g c = search (rules, mac_of-pads_of)
