use Rattle.std.proofs.Common.{rules, append_assoc}
use Rattle.mongo_settings.specs.Report.{sizes_line}
use Rattle.mongo_settings.proofs.report.description.push_sizes.Goals as goal

pub returns : goal.returns
unfolding sizes_line
returns c = search (rules, append_assoc)
