use Rattle.mongo_command.proofs.OneWrite.{done_told, refused_told}
use Rattle.mongo_command.proofs.write_reply.single_write.Goals as goal

pub returns-clause-done : goal.returns-clause-done
returns-clause-done c = done_told _ c.in_ok-reply.reply c.told_of_write.result c.in_ok-reply.ensures.reply c.told_of_write.ensures

pub returns-clause-refused : goal.returns-clause-refused
returns-clause-refused c = refused_told _ c.in_ok-reply.reply c.told_of_write.result c.in_ok-reply.ensures.reply c.told_of_write.ensures
