use Rattle.std.proofs.Common.{refl, None}
use Rattle.mongo_session.proofs.Remembered.{remembers_alone, user_later, starts_with_start}
use Rattle.mongo_session.proofs.session.Session.start.Goals as goal

pub returns-in_err-opened-clause-remembers : goal.returns-in_err-opened-clause-remembers
returns-in_err-opened-clause-remembers g c = λ requests document h brings. remembers_alone c.args.settings.now requests document (record { user = c.args.self.now.user; login = None }) refl h.user

pub returns-in-Some-clause-remembers : goal.returns-in-Some-clause-remembers
returns-in-Some-clause-remembers g c = λ requests document h brings.
    let opened = rw c.in-Some.is at c.in_ok-opened.ensures.opened in
    record {
      user = user_later c.args.settings.now c.args.self.now.user requests document h.user;
      login = starts_with_start c.args.settings.now requests document c.args.start c.in-Some.opened opened brings;
    }

pub returns-in-None-clause-remembers : goal.returns-in-None-clause-remembers
returns-in-None-clause-remembers g c = λ requests document h brings. remembers_alone c.args.settings.now requests document (record { user = c.args.self.now.user; login = None }) refl h.user
