use Rattle.std.proofs.Common.{◌≡◌, ◌∙◌, Some, IfSome, subst, sym}
use Rattle.mongo_session.proofs.Carried.{goes_on_with}
use Rattle.mongo_session.proofs.Continued.{goes_last, goes_empty}
use Rattle.mongo_session.proofs.Remembered.{remembers_alone}
use Rattle.mongo_session.specs.Login.{IsPendingLogin}
use Rattle.mongo_session.proofs.session.Session.go_on.Goals as goal

pub returns-in_default-clause-remembers : goal.returns-in_default-clause-remembers
returns-in_default-clause-remembers c = λ settings requests document h says.
    remembers_alone settings requests document (record { user = c.args.self.now.user; login = c.take.new.self }) c.take.ensures.after h.user

pub returns-then-not-next-clause-remembers : goal.returns-then-not-next-clause-remembers
returns-then-not-next-clause-remembers c = λ settings requests document h says.
    remembers_alone settings requests document (record { user = c.args.self.now.user; login = c.take.new.self }) c.take.ensures.after h.user

pub returns-then-login-clause-answered : goal.returns-then-login-clause-answered
returns-then-login-clause-answered c =
    let login = c.in-Some-Some.login in
    goes_empty c.args.self.now c.args.next login c.in-Some-Some.payload c.take.new.self (sym c.take.ensures.value ∙ c.in-Some-Some.is-0) c.in-Some-Some.is-1 c.if-not-next.false c.take.ensures.after c.if-login.true c.end.new.self
    c.end.result c.end.ensures.answered

pub returns-clause-answered : goal.returns-clause-answered
returns-clause-answered c =
    let login = c.in-Some-Some.login in
    goes_last c.args.self.now c.args.next login c.in-Some-Some.payload c.take.new.self (sym c.take.ensures.value ∙ c.in-Some-Some.is-0) c.in-Some-Some.is-1 c.if-not-next.false c.take.ensures.after c.if-login.false c.prove.new.self
    c.prove.result c.prove.ensures.answered

pub returns-clause-remembers : goal.returns-clause-remembers
returns-clause-remembers c = λ settings requests document h says.
    let login = c.in-Some-Some.login in
    let held : c.args.self.now.login ≡ Some login = sym c.take.ensures.value ∙ c.in-Some-Some.is-0 in
    c.prove.ensures.remembers settings requests document h.user (subst (λ l. IfSome l (IsPendingLogin settings requests)) held h.login)
    (goes_on_with document c.args.next c.in-Some-Some.payload says c.in-Some-Some.is-1 c.if-not-next.false)
