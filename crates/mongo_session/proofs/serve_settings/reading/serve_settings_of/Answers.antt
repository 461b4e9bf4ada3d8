use Rattle.std.proofs.Common.{rules}
use Rattle.mongo_session.specs.ServeSettings.{serve_settings_in, settings_meant}
use Rattle.mongo_session.proofs.serve_settings.reading.serve_settings_of.Goals as goal

pub returns-in_err-accounts : goal.returns-in_err-accounts
unfolding settings_meant serve_settings_in
returns-in_err-accounts c = search rules

pub returns : goal.returns
unfolding settings_meant serve_settings_in
returns c = search rules
