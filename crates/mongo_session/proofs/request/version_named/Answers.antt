use Rattle.std.proofs.Common.{◌∙◌}
use Rattle.mongo_session.proofs.Versions.{version_named-ok, version_named-err}
use Rattle.mongo_session.proofs.request.version_named.Goals as goal

pub returns-in-Ok : goal.returns-in-Ok
returns-in-Ok c = c.scram_version_of.ensures ∙ version_named-ok c.args.name.now c.in-Ok.mechanism c.in-Ok.ensures.value

pub returns-in-Err : goal.returns-in-Err
returns-in-Err c = version_named-err c.args.name.now c.in-Err.field-0 c.in-Err.ensures.value
