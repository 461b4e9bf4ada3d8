use Rattle.std.proofs.Common.{rules}
use Rattle.mongo_sasl.proofs.validation.judge_properties.Goals as goal

pub returns : goal.returns
returns c = search rules
