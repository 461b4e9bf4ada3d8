use Rattle.std.proofs.Common.{inl, rules}
use Rattle.mongo_session.proofs.Derived.{refused_after}
use Rattle.mongo_session.proofs.Remembered.{remembers_later}
use Rattle.mongo_session.specs.Costs.{StartRounds, CostsAtMost}
use Rattle.mongo_session.proofs.answer.answer_request.Goals as goal

pub returns-in_ok-answer_hello-in-Hello-clause-remembers :
    goal.returns-in_ok-answer_hello-in-Hello-clause-remembers
returns-in_ok-answer_hello-in-Hello-clause-remembers g c = λ requests document h says.
    let hello = rw c.in-Hello.is at says in
    c.answer_hello.ensures.remembers requests document h hello

pub returns-in_ok-start-in-SaslStart-clause-remembers :
    goal.returns-in_ok-start-in-SaslStart-clause-remembers
returns-in_ok-start-in-SaslStart-clause-remembers g c = λ requests document h says.
    let start = rw c.in-SaslStart.is at says in
    c.start.ensures.remembers requests document h (inl start)

pub returns-in-Ping-clause-remembers : goal.returns-in-Ping-clause-remembers
returns-in-Ping-clause-remembers g c = λ requests document h says. remembers_later c.args.settings.now requests document c.args.session.now h

pub returns-in-BuildInfo-clause-remembers : goal.returns-in-BuildInfo-clause-remembers
returns-in-BuildInfo-clause-remembers g c = λ requests document h says. remembers_later c.args.settings.now requests document c.args.session.now h

pub returns-in-EndSessions-clause-remembers : goal.returns-in-EndSessions-clause-remembers
returns-in-EndSessions-clause-remembers g c = λ requests document h says. remembers_later c.args.settings.now requests document c.args.session.now h

pub returns-in_ok-name-in-Other-clause-remembers :
    goal.returns-in_ok-name-in-Other-clause-remembers
returns-in_ok-name-in-Other-clause-remembers g c = λ requests document h says. remembers_later c.args.settings.now requests document c.args.session.now h

pub returns-in_ok-start-in-SaslStart-clause-answered :
    goal.returns-in_ok-start-in-SaslStart-clause-answered
returns-in_ok-start-in-SaslStart-clause-answered g c =
    rw c.in-SaslStart.is (c.in_ok-start-in-SaslStart.field-0, c.login_reply.ensures, c.in_ok-start-in-SaslStart.ensures.answered, c.start.ensures.user)

pub returns-in_ok-go_on-in-SaslContinue-clause-remembers :
    goal.returns-in_ok-go_on-in-SaslContinue-clause-remembers
returns-in_ok-go_on-in-SaslContinue-clause-remembers g c = λ requests document h says.
    let next = rw c.in-SaslContinue.is at says in
    c.go_on.ensures.remembers c.args.settings.now requests document h next

pub returns-in_ok-go_on-in-SaslContinue-clause-answered :
    goal.returns-in_ok-go_on-in-SaslContinue-clause-answered
returns-in_ok-go_on-in-SaslContinue-clause-answered g c =
    rw c.in-SaslContinue.is (c.in_ok-go_on-in-SaslContinue.field-0, c.login_reply-in-SaslContinue.ensures, c.in_ok-go_on-in-SaslContinue.ensures.answered)

pub returns-in-Ping-clause-answered : goal.returns-in-Ping-clause-answered
returns-in-Ping-clause-answered g c = search rules

pub returns-in_ok-start-in-SaslStart-clause-cost :
    goal.returns-in_ok-start-in-SaslStart-clause-cost
returns-in_ok-start-in-SaslStart-clause-cost g c = rw c.in-SaslStart.is c.in_ok-start-in-SaslStart.ensures.cost

pub returns-in_err-start-in-SaslStart-clause-at_most :
    goal.returns-in_err-start-in-SaslStart-clause-at_most
returns-in_err-start-in-SaslStart-clause-at_most g c =
    rw c.in-SaslStart.is (refused_after (CostsAtMost (StartRounds c.args.settings.now c.in-SaslStart.start) c.args.steps.now c.start.new.steps) c.from_residual-in_err-start-in-SaslStart.result c.in_err-start-in-SaslStart.ensures.at_most)
