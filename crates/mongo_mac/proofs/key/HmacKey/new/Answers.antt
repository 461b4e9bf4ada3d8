use Rattle.std.proofs.Common.{rules}
use Rattle.mongo_mac.specs.Hmac.{pads_of}
use Rattle.mongo_mac.proofs.key.HmacKey.new.Goals as goal

pub returns : goal.returns
unfolding pads_of
returns g c = search rules
