use Rattle.std.proofs.Common.{◌∙◌, ap, sym, subst, inr}
use Rattle.std.specs.Io.KnownBytes.{Appends}
use Rattle.mongo_wire.specs.Outside.{AppendsFront}
use Rattle.mongo_settings.specs.Run.{run_of}
use Rattle.mongo_settings.specs.Task.{steps_of}
use Rattle.mongo_connect.specs.Settings.{line_judged}
use Rattle.mongo_connect.specs.Run.{Ends}
use Rattle.mongo_connect.proofs.Ends.{attempt, ends_reported}
use Rattle.mongo_connect.proofs.run.run_line.Goals as goal

pub returns-in-Ok-write_report-clause-ends : goal.returns-in-Ok-write_report-clause-ends
returns-in-Ok-write_report-clause-ends g c =
    let x = c.in-Ok-connected.rehearsal in
    let over = c.connect_over-connected in
    let is = c.in-Ok-connected.is in
    let steps = steps_of c.args.steps.now over.new.steps in
    let run = run_of c.args.link over.result.1 c.args.report.now c.write_report.new.sink in
    let judged = ap line_judged (sym c.as_slice.ensures.value) ∙ c.in-Ok-settings_of_line.ensures.settings in
    subst (Ends g.L.Outside.state g.K.Outside.state steps run) (sym c.after.ensures)
    (ends_reported g.L.Outside.state g.K.Outside.state steps run x
    (attempt c.in-Ok.line.items c.in-Ok-settings_of_line.settings steps _ _ _ x c.in-Ok.ensures.line judged (rw is at over.ensures.told) (λ bytes t f. rw is at (over.ensures.rehearsed bytes t f)))
    (subst (Appends _ _) c.as_slice-2.ensures.value c.in-Ok-write_report.ensures.written) c.in-Ok-write_report.ensures.flushed c.in-Ok-write_report.ensures.exact)

pub returns-in-Err-Failed-clause-ends : goal.returns-in-Err-Failed-clause-ends
returns-in-Err-Failed-clause-ends g c =
    let x = c.in-Ok-connected.rehearsal in
    let over = c.connect_over-connected in
    let is = c.in-Ok-connected.is in
    let steps = steps_of c.args.steps.now over.new.steps in
    let judged = ap line_judged (sym c.as_slice.ensures.value) ∙ c.in-Ok-settings_of_line.ensures.settings in
    record {
      rose = rw c.in-Err-Failed.field-0-is at c.in-Err-Failed.ensures.exact;
      front = record {
        rehearsal = x;
        attempt = attempt c.in-Ok.line.items c.in-Ok-settings_of_line.settings steps _ _ _ x c.in-Ok.ensures.line judged (rw is at over.ensures.told) (λ bytes t f. rw is at (over.ensures.rehearsed bytes t f));
        front = subst (AppendsFront _ _) c.as_slice-2.ensures.value c.in-Err-Failed.ensures.refused;
      };
    }

pub returns-clause-ends : goal.returns-clause-ends
returns-clause-ends g c =
    let x = c.in-Ok-connected.rehearsal in
    let over = c.connect_over-connected in
    let is = c.in-Ok-connected.is in
    let steps = steps_of c.args.steps.now over.new.steps in
    let judged = ap line_judged (sym c.as_slice.ensures.value) ∙ c.in-Ok-settings_of_line.ensures.settings in
    inr (inr (record {
      sink_unfailed = rw c.in-Err-OutOfMemory-write_report.field-0-is at c.in-Err-OutOfMemory-write_report.ensures.exact;
      front = record {
        rehearsal = x;
        attempt = attempt c.in-Ok.line.items c.in-Ok-settings_of_line.settings steps _ _ _ x c.in-Ok.ensures.line judged (rw is at over.ensures.told) (λ bytes t f. rw is at (over.ensures.rehearsed bytes t f));
        front = subst (AppendsFront _ _) c.as_slice-2.ensures.value c.in-Err-OutOfMemory-write_report.ensures.refused;
      };
    }))
