use Rattle.std.proofs.Common.{rules}
use Rattle.mongo_scram.proofs.server_final.ServerFinal.validate_by.Goals as goal

pub returns-then-are_same_bytes-clause-valid : goal.returns-then-are_same_bytes-clause-valid
returns-then-are_same_bytes-clause-valid c = search rules

pub returns-in-Error-clause-valid : goal.returns-in-Error-clause-valid
returns-in-Error-clause-valid c = search rules

pub returns-in-Error-clause-refused : goal.returns-in-Error-clause-refused
returns-in-Error-clause-refused c = search rules

pub returns-in-Verifier-None-clause-refused : goal.returns-in-Verifier-None-clause-refused
returns-in-Verifier-None-clause-refused c = search rules

pub returns-clause-refused : goal.returns-clause-refused
returns-clause-refused c = search rules
