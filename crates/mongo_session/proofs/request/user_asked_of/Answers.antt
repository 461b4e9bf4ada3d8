use Rattle.mongo_session.proofs.request.user_asked_of.Goals as goal

pub returns-in-None : goal.returns-in-None
returns-in-None c = λ user (text, has, is). c.in-None.ensures text has
