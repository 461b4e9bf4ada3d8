use Rattle.std.proofs.Common.{rules}
use Rattle.mongo_meta.proofs.client_metadata.ClientMetadata.append.Goals as goal

pub returns-clause-appended : goal.returns-clause-appended
returns-clause-appended c = search rules
