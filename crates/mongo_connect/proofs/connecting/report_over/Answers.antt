use Rattle.mongo_settings.specs.Task.{steps_of}
use Rattle.mongo_settings.proofs.Rehearsing.{described}
use Rattle.mongo_connect.proofs.Recalled.{told_over, untold_over}
use Rattle.mongo_connect.proofs.connecting.report_over.Goals as goal

pub report_outcome-requires : goal.report_outcome-requires
report_outcome-requires g c = record { described = described _ _ _ _ _ _ _ c.connect-ended.result c.connect-ended.ensures.ended.established }

pub returns-clause-told : goal.returns-clause-told
returns-clause-told g c =
    let ended = c.connect-ended in
    let before = g.L.Outside.state c.args.recording.now.link in
    let steps = steps_of c.args.steps.now ended.new.steps in
    told_over c.args.settings steps g.O.Origin.origin before _ _ c.new-state.result.salted ended.new.state.salted ended.result c.written.result.now c.taken.result c.report_outcome.result c.requires.fresh
    c.in_ok-login.ensures.login.setup c.new-state.ensures.entries ended.ensures.ended c.written.ensures.kept c.taken.ensures.counted c.report_outcome.ensures.told

pub returns-clause-untold : goal.returns-clause-untold
returns-clause-untold g c =
    let ended = c.connect-ended in
    let before = g.L.Outside.state c.args.recording.now.link in
    let steps = steps_of c.args.steps.now ended.new.steps in
    untold_over c.args.settings steps g.O.Origin.origin before _ _ c.new-state.result.salted ended.new.state.salted ended.result c.report_outcome.result c.requires.fresh
    c.in_ok-login.ensures.login.setup c.new-state.ensures.entries ended.ensures.ended
