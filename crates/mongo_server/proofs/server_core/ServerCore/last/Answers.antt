use Rattle.mongo_server.proofs.ServedAuthentication.{takes_final, takes_only}
use Rattle.mongo_server.proofs.ServerRows.{exact_taken, exact_refused}
use Rattle.mongo_server.proofs.server_core.ServerCore.last.Goals as goal

pub returns-in-Ok-clause-exact : goal.returns-in-Ok-clause-exact
returns-in-Ok-clause-exact c = exact_taken c.args.self.now c.args.client_final.now c.expected_final.result c.in-Ok.ensures.taken

pub returns-in-Err-clause-exact : goal.returns-in-Err-clause-exact
returns-in-Err-clause-exact c = exact_refused c.args.self.now c.args.client_final.now c.in-Err.fault c.in-Err.ensures.refused

pub returns-in-Err-clause-accepts : goal.returns-in-Err-clause-accepts
returns-in-Err-clause-accepts c = takes_final c.args.self.now c.args.client_final.now c.in-Err.fault c.in-Err.ensures.refused

pub returns-in-Ok-clause-only : goal.returns-in-Ok-clause-only
returns-in-Ok-clause-only c = takes_only c.args.self.now c.args.client_final.now c.expected_final.result c.in-Ok.ensures.taken
