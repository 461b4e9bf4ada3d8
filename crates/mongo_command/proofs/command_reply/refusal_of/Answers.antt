use Rattle.std.proofs.Common.{inl, refl}
use Rattle.mongo_command.proofs.HelloRead.{fields_refused}
use Rattle.mongo_command.proofs.command_reply.refusal_of.Goals as goal

pub returns-in-Ok : goal.returns-in-Ok
returns-in-Ok c = λ es are. inl (inl (c.in-Ok.error, refl, c.in-Ok.ensures es are))

pub returns-in-Err : goal.returns-in-Err
returns-in-Err c = λ es are. rw (c.refused_as.ensures) (fields_refused es c.args.otherwise c.in-Err.fault (c.in-Err.ensures es are))
