use Rattle.std.specs.Prelude.{take}
use Rattle.std.specs.List.{AllByRecursion}
use Rattle.mongo_session.specs.Started.{Suits}
use Rattle.mongo_session.proofs.start.account_named.Given as goal

-- none of those that were looked at suits
abbrev pub invariant-looking : goal.invariant-looking
invariant-looking l = AllByRecursion (λ account. Suits l.version l.payload account → ⊥) (take l.account-index l.accounts)
