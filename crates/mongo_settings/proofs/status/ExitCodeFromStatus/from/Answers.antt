use Rattle.std.proofs.Common.{rules}
use Rattle.mongo_settings.proofs.status.ExitCodeFromStatus.from.Goals as goal

pub returns : goal.returns
returns c = search rules
