use Rattle.std.proofs.Common.{refl, sym}
use Rattle.mongo_session.proofs.answer.has_account.Goals as goal

pub returns-then-is_of : goal.returns-then-is_of
returns-then-is_of c = (λ _. (c.account-item.result, (c.looking.account-index, c.looking-test.true, sym c.account-item.is), c.is_of.ensures.0 c.if-is_of.true), λ _. refl)
