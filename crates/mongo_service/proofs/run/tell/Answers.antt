use Rattle.std.proofs.Common.{refl, inr}
use Rattle.mongo_service.specs.Report.{report_text}
use Rattle.mongo_service.proofs.Ran.{none_reported}
use Rattle.mongo_service.proofs.run.tell.Goals as goal

pub returns-in-Err : goal.returns-in-Err
returns-in-Err g c = record { front = none_reported (g.K.Outside.state c.args.report.now).written (report_text c.args.served.now); whole = inr (refl, refl) }
