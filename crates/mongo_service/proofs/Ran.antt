-- How a run ends, by how its stream was left.
use Rattle.std.proofs.Common.{◌≡◌, ◌⊎◌, ℕ, Option, None, Some, List, length, inl, inr, sym, subst}
use Rattle.std.proofs.KnownBytes.{Appends-nil}
use Rattle.std.proofs.Math.Seq.{take-length}
use Rattle.std.specs.Io.KnownBytes.{Appends}
use Rattle.mongo_wire.specs.Outside.{AppendsFront}
use Rattle.mongo_service.specs.declared.fault.ServeFault.{ServeFault}
use Rattle.mongo_service.specs.declared.fault.ServeFault.TheVariants.{OutOfMemory}
use Rattle.mongo_service.specs.declared.status.ServeStatus.{ServeStatus}
use Rattle.mongo_service.specs.declared.status.ServeStatus.TheVariants.{Broken, BadSettings, Usage}
use Rattle.mongo_service.specs.Report.{report_text, line_failed, no_settings}
use Rattle.mongo_service.specs.Run.{ServeRun, status_of_fault, FailsWithin, HasBadLine, IsReportedWhole, IsReportLost, Ran, ServingEnds, ServeRunEnds}

by_fault : (run : ServeRun) (fault : Option ServeFault) → Ran run (status_of_fault fault) → ServingEnds run (status_of_fault fault)
by_fault run None h = h
by_fault run (Some OutOfMemory) h = inl h
by_fault run (Some cause) h = inl h

ran_by : (run : ServeRun) (status : ServeStatus) (h : Ran run status) → ((status ≡ status_of_fault h.served.fault) × IsReportedWhole run.report_old run.report_new (report_text h.served)) ⊎ IsReportLost run.report_old run.report_new status → ServingEnds run status
ran_by run status h (inl (is, said)) = subst (ServingEnds run) (sym is) (by_fault run h.served.fault (subst (Ran run) is h))
ran_by run status h (inr (is, unfailed)) = subst (ServingEnds run) (sym is) (inl (subst (Ran run) is h))

pub ran_ends : (run : ServeRun) (status : ServeStatus) → Ran run status → ServingEnds run status
ran_ends run status h = ran_by run status h h.told.whole

-- ---- there are no settings

bad_line_by : (run : ServeRun) (status : ServeStatus) → HasBadLine run status → ((status ≡ BadSettings) × IsReportedWhole run.report_old run.report_new no_settings) ⊎ IsReportLost run.report_old run.report_new status → ServingEnds run status
bad_line_by run status h (inl (is, said)) = subst (ServingEnds run) (sym is) (subst (HasBadLine run) is h)
bad_line_by run status h (inr (is, unfailed)) = subst (ServingEnds run) (sym is) (inr (inr (inr (subst (HasBadLine run) is h))))

pub bad_line_ends : (run : ServeRun) (status : ServeStatus) → HasBadLine run status → ServingEnds run status
bad_line_ends run status h = bad_line_by run status h h.2.whole

failed_by : (run : ServeRun) (status : ServeStatus) → FailsWithin run status → ((status ≡ Broken) × IsReportedWhole run.report_old run.report_new line_failed) ⊎ IsReportLost run.report_old run.report_new status → ServingEnds run status
failed_by run status h (inl (is, said)) = subst (ServingEnds run) (sym is) (inr (subst (FailsWithin run) is h))
failed_by run status h (inr (is, unfailed)) = subst (ServingEnds run) (sym is) (inr (inr (inl (subst (FailsWithin run) is h))))

pub failed_within_ends : (run : ServeRun) (status : ServeStatus) → FailsWithin run status → ServingEnds run status
failed_within_ends run status h = failed_by run status h h.2.whole

-- ---- words

-- a run without words ends as serving does
pub served_ends : (words : ℕ) (run : ServeRun) (status : ServeStatus) → words ≡ 0 → ServingEnds run status → ServeRunEnds words run status
served_ends words run Usage none ends = absurd ends
served_ends words run status none ends = (none, ends)

-- ---- what is said

-- all of the text was written
pub all_reported : (old new : Option (List ℕ)) (text : List ℕ) → Appends old new text → AppendsFront old new text
all_reported old new text h = (length text, subst (Appends old new) (sym (take-length text)) h)

-- nothing was said
pub none_reported : (old : Option (List ℕ)) (text : List ℕ) → AppendsFront old old text
none_reported old text = (0, Appends-nil old)
