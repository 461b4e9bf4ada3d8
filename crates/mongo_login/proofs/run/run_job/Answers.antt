use Rattle.std.proofs.Common.{◌∙◌, refl, ap, sym}
use Rattle.mongo_settings.specs.Run.{run_of}
use Rattle.mongo_settings.specs.Task.{steps_of}
use Rattle.mongo_login.specs.Job.{asks_of, judged_as}
use Rattle.mongo_login.proofs.Ends.{ends_finished, ends_unbuilt, ends_unread}
use Rattle.mongo_login.proofs.run.run_job.Goals as goal

pub returns-in-Ok-read-clause-ends : goal.returns-in-Ok-read-clause-ends
returns-in-Ok-read-clause-ends g c =
    let job = c.args.job in
    let run = run_of c.args.source.now c.read_input.new.source c.args.sink.now c.finish.new.sink in
    ends_finished g.S.Outside.state g.K.Outside.state job (steps_of c.args.steps.now c.finish.new.steps) run c.in-Ok.text.items (asks_of c.in-Ok-read.asked) c.finish.result
    (record { reads = c.in-Ok.ensures.read; alike = c.in-Ok.ensures.judged_alike job; ended = c.in-Ok.ensures.ended; at_most = c.read_input.ensures.at_most; unfailed = c.in-Ok.ensures.unfailed })
    (ap (judged_as job) (sym c.as_slice.ensures.value) ∙ c.in-Ok-read.ensures.asked) c.finish.ensures.ends

pub returns-in-Err-NotBuilt-clause-ends : goal.returns-in-Err-NotBuilt-clause-ends
returns-in-Err-NotBuilt-clause-ends g c =
    let job = c.args.job in
    let run = run_of c.args.source.now c.read_input.new.source c.args.sink.now c.args.sink.now in
    ends_unbuilt g.S.Outside.state g.K.Outside.state job (steps_of c.args.steps.now c.args.steps.now) run c.in-Ok.text.items
    (record { reads = c.in-Ok.ensures.read; alike = c.in-Ok.ensures.judged_alike job; ended = c.in-Ok.ensures.ended; at_most = c.read_input.ensures.at_most; unfailed = c.in-Ok.ensures.unfailed })
    (ap (judged_as job) (sym c.as_slice.ensures.value) ∙ (rw c.in-Err-NotBuilt.field-0-is at c.in-Err-NotBuilt.ensures.asked)) refl

pub returns-clause-ends : goal.returns-clause-ends
returns-clause-ends g c =
    let job = c.args.job in
    let run = run_of c.args.source.now c.read_input.new.source c.args.sink.now c.args.sink.now in
    ends_unread g.S.Outside.state g.K.Outside.state job (steps_of c.args.steps.now c.args.steps.now) run c.in-Ok.text.items
    (record { reads = c.in-Ok.ensures.read; alike = c.in-Ok.ensures.judged_alike job; ended = c.in-Ok.ensures.ended; at_most = c.read_input.ensures.at_most; unfailed = c.in-Ok.ensures.unfailed })
    refl
