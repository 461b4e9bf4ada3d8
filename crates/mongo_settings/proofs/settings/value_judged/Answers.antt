use Rattle.std.proofs.Common.{rules}
use Rattle.mongo_settings.specs.Settings.{value_judged}
use Rattle.mongo_settings.proofs.settings.value_judged.Goals as goal

pub returns : goal.returns
unfolding value_judged
returns c = search rules
