use Rattle.std.proofs.Common.{rules}
use Rattle.mongo_command.proofs.raw_command_response.RawCommandResponse.auth_response_body.Goals as goal

pub returns-else-branch-clause-well_formed : goal.returns-else-branch-clause-well_formed
returns-else-branch-clause-well_formed c = search rules
