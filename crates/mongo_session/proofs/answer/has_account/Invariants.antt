use Rattle.std.specs.Prelude.{take}
use Rattle.std.specs.List.{AllByRecursion}
use Rattle.mongo_session.specs.Accounts.{IsOf}
use Rattle.mongo_session.proofs.answer.has_account.Given as goal

-- none of those that were looked at is the user's
abbrev pub invariant-looking : goal.invariant-looking
invariant-looking l = AllByRecursion (λ account. IsOf l.user l.version account → ⊥) (take l.account-index l.accounts)
