use Rattle.std.proofs.Common.{rules}
use Rattle.mongo_aws.proofs.FirstRows.{begins_decided}
use Rattle.mongo_aws.proofs.server_first.begins_with.Goals as goal

pub returns : goal.returns
returns c = begins_decided c.args.nonce.now c.args.ours.now c.starts_with.result (search rules)
