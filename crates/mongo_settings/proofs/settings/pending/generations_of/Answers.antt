use Rattle.std.proofs.Common.{rules}
use Rattle.mongo_settings.specs.Pending.{with_members}
use Rattle.mongo_settings.proofs.settings.pending.generations_of.Goals as goal

pub loop-key-preserved : goal.loop-key-preserved
unfolding with_members
loop-key-preserved c = search rules
