use Rattle.std.proofs.Common.{Some, inr}
use Rattle.mongo_session.proofs.Remembered.{remembers_later}
use Rattle.mongo_session.specs.Requests.{CarriesLogin}
use Rattle.mongo_session.proofs.answer.begin.Goals as goal

pub returns-in-Some-clause-remembers : goal.returns-in-Some-clause-remembers
returns-in-Some-clause-remembers g c = λ requests document h is_hello carries.
    let start : CarriesLogin document (Some c.in-Some.start) = rw c.in-Some.is at carries in
    c.start.ensures.remembers requests document h (inr (is_hello, start))

pub returns-in-None-clause-remembers : goal.returns-in-None-clause-remembers
returns-in-None-clause-remembers g c = λ requests document h is_hello carries. remembers_later c.args.settings.now requests document c.args.session.now h

pub returns-in-Some-clause-cost : goal.returns-in-Some-clause-cost
returns-in-Some-clause-cost g c = rw c.in-Some.is c.start.ensures.cost

pub returns-in-Some-clause-at_most : goal.returns-in-Some-clause-at_most
returns-in-Some-clause-at_most g c = rw c.in-Some.is c.start.ensures.at_most
