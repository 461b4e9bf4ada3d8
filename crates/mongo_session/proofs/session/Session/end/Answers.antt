use Rattle.mongo_session.proofs.Remembered.{remembers_alone, logged_in_before}
use Rattle.mongo_session.proofs.session.Session.end.Goals as goal

pub returns-then-not-is_empty-clause-remembers : goal.returns-then-not-is_empty-clause-remembers
returns-then-not-is_empty-clause-remembers c = λ settings requests document user login. remembers_alone settings requests document c.args.self.now c.requires.none user

pub returns-in_err-answer-clause-remembers : goal.returns-in_err-answer-clause-remembers
returns-in_err-answer-clause-remembers c = λ settings requests document user login. remembers_alone settings requests document c.args.self.now c.requires.none user

pub returns-clause-remembers : goal.returns-clause-remembers
returns-clause-remembers c = λ settings requests document user login. record { user = logged_in_before settings requests document c.args.login login c.requires.proved; login = rw c.requires.none tt }
