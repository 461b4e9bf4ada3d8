use Rattle.std.proofs.Common.{rules}
use Rattle.mongo_settings.proofs.status.Status.after.Goals as goal

pub returns-in-Refused : goal.returns-in-Refused
returns-in-Refused c = search rules
