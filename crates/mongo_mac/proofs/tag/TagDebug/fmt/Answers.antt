use Rattle.std.proofs.Common.{rules}
use Rattle.mongo_mac.proofs.tag.TagDebug.fmt.Goals as goal

pub returns : goal.returns
returns g c = search rules
