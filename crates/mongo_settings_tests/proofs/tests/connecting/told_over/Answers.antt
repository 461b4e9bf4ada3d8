use Rattle.mongo_settings.proofs.Rehearsing.{described}
use Rattle.mongo_settings_tests.proofs.tests.connecting.told_over.Goals as goal

pub report_outcome-requires : goal.report_outcome-requires
report_outcome-requires g c = record { described = described _ _ _ _ _ _ _ c.connect-ended.result c.connect-ended.ensures.ended.established }
