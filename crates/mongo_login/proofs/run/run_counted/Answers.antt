use Rattle.std.proofs.Common.{rules}
use Rattle.mongo_login.proofs.run.run_counted.Goals as goal

pub returns-clause-ends : goal.returns-clause-ends
returns-clause-ends g c = search rules

pub returns-clause-decided : goal.returns-clause-decided
returns-clause-decided g c = search rules
