use Rattle.std.proofs.Common.{rules}
use Rattle.mongo_session.proofs.request.is_int32.Goals as goal

pub returns-in-Int32 : goal.returns-in-Int32
returns-in-Int32 c = search rules
