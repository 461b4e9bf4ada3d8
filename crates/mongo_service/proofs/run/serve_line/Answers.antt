use Rattle.std.proofs.Common.{◌≡◌, Err, ap, refl, ◌∙◌}
use Rattle.mongo_service.specs.Run.{ServeRun}
use Rattle.mongo_service.specs.declared.settings_line.LineError.TheVariants.{BadSettings, Fault}
use Rattle.mongo_service.proofs.Ran.{bad_line_ends, failed_within_ends, ran_ends}
use Rattle.mongo_service.proofs.run.serve_line.Goals as goal

pub returns-in-Err-BadSettings : goal.returns-in-Err-BadSettings
returns-in-Err-BadSettings g c = record {
  ends =
      let run : ServeRun = record {
        old = g.L.Outside.state c.args.link.now;
        new = g.L.Outside.state c.read_serve_settings.new.source;
        report_old = g.K.Outside.state c.args.report.now;
        report_new = g.K.Outside.state c.say.new.report;
        steps_old = c.args.steps.now;
        steps_new = c.args.steps.now;
      } in
      let is : c.read_serve_settings.result ≡ Err BadSettings = c.in-Err-BadSettings.is ∙ ap Err c.in-Err-BadSettings.field-0-is in
      bad_line_ends run c.say.result (c.read_serve_settings.ensures.none is, c.in-Err-BadSettings.ensures.on.unwritten.written, c.say.ensures, refl);
}

pub returns-in-Err-Fault : goal.returns-in-Err-Fault
returns-in-Err-Fault g c = record {
  ends =
      let run : ServeRun = record {
        old = g.L.Outside.state c.args.link.now;
        new = g.L.Outside.state c.read_serve_settings.new.source;
        report_old = g.K.Outside.state c.args.report.now;
        report_new = g.K.Outside.state c.say-in-Err-Fault.new.report;
        steps_old = c.args.steps.now;
        steps_new = c.args.steps.now;
      } in
      let is : c.read_serve_settings.result ≡ Err Fault = c.in-Err-Fault.is ∙ ap Err c.in-Err-Fault.field-0-is in
      failed_within_ends run c.say-in-Err-Fault.result (c.read_serve_settings.ensures.failed is, c.in-Err-Fault.ensures.on.unwritten.written, c.say-in-Err-Fault.ensures, refl);
}

pub returns : goal.returns
returns g c = record {
  ends =
      let run : ServeRun = record {
        old = g.L.Outside.state c.args.link.now;
        new = g.L.Outside.state c.serve-served.new.link;
        report_old = g.K.Outside.state c.args.report.now;
        report_new = g.K.Outside.state c.tell.new.report;
        steps_old = c.args.steps.now;
        steps_new = c.serve-served.new.steps;
      } in
      ran_ends run c.tell.result (record {
        settings = c.in-Ok.settings;
        between = g.L.Outside.state c.read_serve_settings.new.source;
        after_line = c.in-Ok.ensures.line;
        served = c.serve-served.result;
        is_served = c.serve-served.ensures.served;
        told = c.tell.ensures;
      });
}
