use Rattle.mongo_session.proofs.Carried.{hello_carried}
use Rattle.mongo_session.proofs.answer.answer_hello.Goals as goal

pub returns-in_err-speculation-clause-remembers : goal.returns-in_err-speculation-clause-remembers
returns-in_err-speculation-clause-remembers g c = λ requests document h says. c.begin.ensures.remembers requests document h (hello_carried document c.args.hello.is_legacy says.name) says.speculation

pub returns-clause-remembers : goal.returns-clause-remembers
returns-clause-remembers g c = λ requests document h says. c.begin.ensures.remembers requests document h (hello_carried document c.args.hello.is_legacy says.name) says.speculation
