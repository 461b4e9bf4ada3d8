use Rattle.std.proofs.Common.{rules}
use Rattle.serde_json.specs.View.{view}
use Rattle.mongo_settings.specs.Settings.{settings_of, Gives}
use Rattle.mongo_settings.proofs.Spoken.{spoken}
use Rattle.mongo_settings.proofs.settings.settings_of.Goals as goal

pub returns-clause-spoken : goal.returns-clause-spoken
unfolding settings_of
returns-clause-spoken c =
    let gives : Gives (λ s. s) c.read.result (settings_of (view c.args.value.now)) = search rules in
    spoken (view c.args.value.now) c.read.result gives
