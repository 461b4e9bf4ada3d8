use Rattle.std.proofs.Common.{arith}
use Rattle.std.proofs.lemmas.Grind.{common_steps}
use Rattle.mongo_sasl.proofs.plain.payload_bytes.Goals as goal

pub returns-clause-payload : goal.returns-clause-payload
returns-clause-payload c = grind (arith, common_steps)
