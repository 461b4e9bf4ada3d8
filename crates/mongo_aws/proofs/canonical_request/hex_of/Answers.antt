use Rattle.std.proofs.Common.{subst, sym}
use Rattle.std.specs.Str.{IsAscii}
use Rattle.mongo_aws.proofs.HeaderTexts.{ascii_hex}
use Rattle.mongo_aws.proofs.canonical_request.hex_of.Goals as goal

pub returns-clause-ascii : goal.returns-clause-ascii
returns-clause-ascii c = subst IsAscii (sym c.in-Ok.ensures.written) (ascii_hex c.as_slice.result.now)
