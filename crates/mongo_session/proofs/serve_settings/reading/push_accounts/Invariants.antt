use Rattle.std.proofs.Common.{drop}
use Rattle.serde_json.specs.View.{view, items_view}
use Rattle.mongo_session.specs.ServeSettings.{accounts_by}
use Rattle.mongo_session.proofs.SettingsRead.{ReadTo}
use Rattle.mongo_session.proofs.serve_settings.reading.push_accounts.Given as goal

-- the accounts so far and those of the mechanisms that are left are the user's
abbrev pub invariant-pairs : goal.invariant-pairs
invariant-pairs l =
    let user = view l.user in
    ReadTo l.fn.accounts (accounts_by user (items_view l.mechanisms) (items_view l.salts)) l.accounts (accounts_by user (items_view (drop l.at l.mechanisms)) (items_view (drop l.at l.salts)))
