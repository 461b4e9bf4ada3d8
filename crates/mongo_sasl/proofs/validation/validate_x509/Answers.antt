use Rattle.std.proofs.Common.{rules}
use Rattle.mongo_sasl.proofs.validation.validate_x509.Goals as goal

pub returns : goal.returns
returns c = search rules
