use Rattle.std.proofs.Common.{rules}
use Rattle.mongo_settings.proofs.settings.mechanism.judge_mechanism.Goals as goal

pub returns-in-Some : goal.returns-in-Some
returns-in-Some c = search rules
