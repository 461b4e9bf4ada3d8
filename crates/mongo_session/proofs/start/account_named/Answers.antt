use Rattle.std.proofs.Common.{suc, take, drop}
use Rattle.mongo_session.proofs.Accounts.{split_at}
use Rattle.mongo_session.proofs.start.account_named.Goals as goal

pub returns-then-branch : goal.returns-then-branch
returns-then-branch c =
    let accounts = c.args.accounts.now in
    let i = c.looking.account-index in
    record {
      before = take i accounts;
      after = drop (suc i) accounts;
      split = split_at accounts i c.account-item.result c.looking-test.true c.account-item.is;
      others = c.looking.invariant;
      suits = c.in_ok-suits.ensures.0 c.if-branch.true;
    }
