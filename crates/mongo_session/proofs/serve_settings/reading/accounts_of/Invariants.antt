use Rattle.serde_json.specs.View.{items_view}
use Rattle.std.proofs.Common.{[], drop}
use Rattle.mongo_session.specs.ServeSettings.{accounts_of}
use Rattle.mongo_session.proofs.SettingsRead.{ReadTo}
use Rattle.mongo_session.proofs.serve_settings.reading.accounts_of.Given as goal

-- the accounts so far and those of the users that are left are all
abbrev pub invariant-users : goal.invariant-users
invariant-users l = ReadTo [] (accounts_of (items_view l.users)) l.accounts (accounts_of (items_view (drop l.user-index l.users)))
