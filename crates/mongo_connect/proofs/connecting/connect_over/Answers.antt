use Rattle.mongo_settings.specs.Task.{steps_of}
use Rattle.mongo_connect.proofs.Recalled.{rehearsed_over}
use Rattle.mongo_connect.proofs.connecting.connect_over.Goals as goal

pub returns-clause-rehearsed : goal.returns-clause-rehearsed
returns-clause-rehearsed g c = rehearsed_over c.args.settings (steps_of c.args.steps.now c.record_over.new.steps) _ _ c.record_over.result.0 c.record_over.ensures.told
