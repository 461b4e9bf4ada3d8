use Rattle.mongo_command.specs.Response.{reply_document}
use Rattle.mongo_command.proofs.OneWrite.{many_validated}
use Rattle.mongo_command.proofs.raw_command_response.RawCommandResponse.validate_insert_many.Goals as goal

pub returns-clause-one : goal.returns-clause-one
returns-clause-one c =
    many_validated (reply_document c.args.self.now) c.insert_many.result (rw (← c.borrow.ensures) c.insert_many.ensures.done) (rw (← c.borrow.ensures) c.insert_many.ensures.refused)
