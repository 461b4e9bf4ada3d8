use Rattle.std.proofs.Common.{drop_of_length-le}
use Rattle.std.proofs.lemmas.Result.{err_from_is_err_and}
use Rattle.mongo_session.proofs.SettingsRead.{user_more, user_stopped, users_ended}
use Rattle.mongo_session.proofs.serve_settings.reading.accounts_of.Goals as goal

pub returns-in_err-push_accounts : goal.returns-in_err-push_accounts
returns-in_err-push_accounts c =
    let p = err_from_is_err_and c.from_residual.result c.from_residual.ensures.1 in
    rw (p.1, p.2) (user_stopped c.in_err-push_accounts.field-0.0 c.args.users.now c.users.user-index c.user-item.result c.users.accounts c.users-test.true c.user-item.is c.users.invariant c.in_err-push_accounts.ensures.refused)

pub users-preserved : goal.users-preserved
users-preserved c =
    user_more c.args.users.now c.users.user-index c.user-item.result c.users.accounts c.push_accounts.new.accounts c.users-test.true c.user-item.is c.users.invariant c.in_ok-push_accounts.ensures.added

pub returns : goal.returns
returns c = users_ended c.args.users.now c.users.user-index c.users.accounts (drop_of_length-le c.args.users.now c.users-test.false) c.users.invariant
