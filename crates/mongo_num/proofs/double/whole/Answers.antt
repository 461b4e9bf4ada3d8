use Rattle.std.proofs.Common.{rules}
use Rattle.mongo_num.proofs.double.whole.Goals as goal

pub returns-then-is_whole : goal.returns-then-is_whole
returns-then-is_whole c = search rules
