use Rattle.std.proofs.Common.{rules}
use Rattle.mongo_sasl.proofs.x509.build_client_first.Goals as goal

pub returns-clause-command : goal.returns-clause-command
returns-clause-command c = search rules
