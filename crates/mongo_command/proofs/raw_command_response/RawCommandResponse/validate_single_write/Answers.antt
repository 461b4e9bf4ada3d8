use Rattle.mongo_command.specs.Response.{reply_document}
use Rattle.mongo_command.proofs.OneWrite.{single_validated}
use Rattle.mongo_command.proofs.raw_command_response.RawCommandResponse.validate_single_write.Goals as goal

pub returns-clause-one : goal.returns-clause-one
returns-clause-one c =
    single_validated (reply_document c.args.self.now) c.single_write.result (rw (← c.borrow.ensures) c.single_write.ensures.done) (rw (← c.borrow.ensures) c.single_write.ensures.refused)
