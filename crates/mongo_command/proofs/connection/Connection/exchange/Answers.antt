use Rattle.std.proofs.Common.{refl}
use Rattle.mongo_command.proofs.EndsExchange.{ends_handed, ends_replied}
use Rattle.mongo_command.proofs.connection.Connection.exchange.Goals as goal

pub returns-in-Ok-clause-ends : goal.returns-in-Ok-clause-ends
returns-in-Ok-clause-ends g c = ends_replied _ _ _ _ _ _ _ _ tt c.in-Ok.ensures.ends

pub returns-in-Err-clause-ends : goal.returns-in-Err-clause-ends
returns-in-Err-clause-ends g c = ends_handed _ _ _ _ _ _ _ _ refl (λ cause. cause) c.in-Err.ensures.ends
