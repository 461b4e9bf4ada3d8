use Rattle.mongo_settings.proofs.Mechanisms.{mechanism_named-ok, mechanism_named-err}
use Rattle.mongo_settings.proofs.settings.mechanism.mechanism_named.Goals as goal

pub returns-in-Ok : goal.returns-in-Ok
returns-in-Ok c = mechanism_named-ok c.args.name.now c.in-Ok.mechanism c.in-Ok.ensures.value

pub returns-in-Err : goal.returns-in-Err
returns-in-Err c = mechanism_named-err c.args.name.now c.in-Err.field-0 c.in-Err.ensures.value
