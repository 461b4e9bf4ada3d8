use Rattle.std.proofs.Common.{rules}
use Rattle.mongo_server.proofs.ServedAuthentication.{accepts_final}
use Rattle.mongo_server.proofs.server_core.ServerCore.expected_final.Goals as goal

pub returns-in-Some-clause-accepts : goal.returns-in-Some-clause-accepts
returns-in-Some-clause-accepts c = accepts_final c.args.self.now c.in-Some._conversation c.server_final_text.result (search rules) (search rules) (search rules)
