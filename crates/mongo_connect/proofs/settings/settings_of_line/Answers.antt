use Rattle.std.proofs.Common.{rules}
use Rattle.mongo_connect.specs.Settings.{line_judged}
use Rattle.mongo_connect.proofs.settings.settings_of_line.Goals as goal

pub returns-clause-settings : goal.returns-clause-settings
unfolding line_judged
returns-clause-settings c = search rules
