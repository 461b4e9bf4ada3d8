use Rattle.std.proofs.Common.{◌+◌, ◌<◌, ◌≤◌, length, drop_of_length-le, sym, subst, arith}
use Rattle.std.proofs.lemmas.Result.{err_from_is_err_and}
use Rattle.serde_json.specs.View.{view, items_view}
use Rattle.mongo_session.specs.ServeSettings.{accounts_by, accounts_of_user}
use Rattle.mongo_session.proofs.SettingsRead.{ReadTo, by_from, pair_more, pair_stopped, pairs_ended, unpaired}
use Rattle.mongo_session.proofs.serve_settings.reading.push_accounts.Goals as goal

pub returns-then-mechanisms-salts-clause-refused : goal.returns-then-mechanisms-salts-clause-refused
unfolding accounts_of_user
returns-then-mechanisms-salts-clause-refused c =
    rw (c.in_ok-mechanisms.ensures, c.in_ok-salts.ensures) (unpaired (view c.args.user.now) c.in_ok-mechanisms.mechanisms.now c.in_ok-salts.salts.now c.if-mechanisms-salts.true)

pub returns-in_err-account-clause-refused : goal.returns-in_err-account-clause-refused
unfolding accounts_of_user
returns-in_err-account-clause-refused c =
    let p = err_from_is_err_and c.from_residual-in_err-account.result c.from_residual-in_err-account.ensures.1 in
    let user = view c.args.user.now in
    let mechanisms = c.in_ok-mechanisms.mechanisms.now in
    let salts = c.in_ok-salts.salts.now in
    let within : c.pairs.at < length salts = omega arith in
    rw (p.1, p.2, c.in_ok-mechanisms.ensures, c.in_ok-salts.ensures)
    (pair_stopped c.in_err-account.field-0.0 user mechanisms salts c.pairs.at c.index-mechanisms-at.result c.index-salts-at.result c.args.accounts.now c.pairs.accounts (accounts_by user (items_view mechanisms) (items_view salts))
    c.pairs-test.true within c.index-mechanisms-at.is c.index-salts-at.is c.pairs.invariant c.in_err-account.ensures)

pub pairs-preserved : goal.pairs-preserved
pairs-preserved c =
    let user = view c.args.user.now in
    let mechanisms = c.in_ok-mechanisms.mechanisms.now in
    let salts = c.in_ok-salts.salts.now in
    let all = accounts_by user (items_view mechanisms) (items_view salts) in
    let within : c.pairs.at < length salts = omega arith in
    subst (λ accounts. ReadTo c.args.accounts.now all accounts (by_from user mechanisms salts (c.pairs.at + 1))) (sym c.in_ok-push.ensures.added)
    (pair_more user mechanisms salts c.pairs.at c.index-mechanisms-at.result c.index-salts-at.result c.args.accounts.now c.pairs.accounts c.in_ok-account.account all
    c.pairs-test.true within c.index-mechanisms-at.is c.index-salts-at.is c.pairs.invariant c.in_ok-account.ensures)

pub returns-clause-added : goal.returns-clause-added
unfolding accounts_of_user
returns-clause-added c =
    let user = view c.args.user.now in
    let mechanisms = c.in_ok-mechanisms.mechanisms.now in
    let salts = c.in_ok-salts.salts.now in
    let past : length salts ≤ c.pairs.at = omega arith in
    rw (c.in_ok-mechanisms.ensures, c.in_ok-salts.ensures)
    (pairs_ended user mechanisms salts c.pairs.at c.args.accounts.now c.pairs.accounts (accounts_by user (items_view mechanisms) (items_view salts))
    (drop_of_length-le mechanisms c.pairs-test.false) (drop_of_length-le salts past) c.pairs.invariant)
