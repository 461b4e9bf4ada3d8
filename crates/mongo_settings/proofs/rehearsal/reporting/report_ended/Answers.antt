use Rattle.std.proofs.Common.{rules}
use Rattle.mongo_settings.proofs.rehearsal.reporting.report_ended.Goals as goal

pub returns-in-Ok : goal.returns-in-Ok
returns-in-Ok c = search rules
