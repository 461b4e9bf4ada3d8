use Rattle.std.proofs.Common.{refl, sym, subst}
use Rattle.mongo_server.specs.Server.{HasBegun}
use Rattle.mongo_session.specs.Requests.{SaysSaslContinue}
use Rattle.mongo_session.proofs.Continued.{not_valid}
use Rattle.mongo_session.proofs.Remembered.{logged_in_now, remembers_alone, user_later, started_later, proved_now}
use Rattle.mongo_session.proofs.session.Session.prove.Goals as goal

pub returns-in-Ok-clause-remembers : goal.returns-in-Ok-clause-remembers
returns-in-Ok-clause-remembers c = λ settings requests document user login closes.
    let only = c.in-Ok.ensures.only login.x login.begun in
    record {
      user = user_later settings c.args.self.now.user requests document user;
      login = record {
        x = login.x;
        of_settings = login.of_settings;
        name_is = login.name_is;
        begun = subst (λ core. HasBegun core login.x) (sym c.in-Ok.ensures.unchanged) login.begun;
        opened = started_later login.x requests document login.opened;
        proved = λ _. proved_now login.x requests document login.opened (subst (SaysSaslContinue document) only closes);
      };
    }

pub returns-then-skips_empty_exchange-clause-remembers : goal.returns-then-skips_empty_exchange-clause-remembers
returns-then-skips_empty_exchange-clause-remembers c = λ settings requests document user login closes.
    let only = c.in-Ok.ensures.only login.x login.begun in
    record { user = logged_in_now settings requests document c.args.login login (subst (SaysSaslContinue document) only closes); login = rw c.requires tt }

pub returns-in-OutOfMemory-clause-remembers : goal.returns-in-OutOfMemory-clause-remembers
returns-in-OutOfMemory-clause-remembers c = λ settings requests document user login closes. remembers_alone settings requests document c.args.self.now c.requires user

pub returns : goal.returns
returns c = record {
  remembers = λ settings requests document user login closes. remembers_alone settings requests document c.args.self.now c.requires user;
  answered = (not_valid c.args.login.core c.args.payload.now c.in-Err.fault c.in-Err.ensures.refused c.in_default.not-OutOfMemory, λ x begun said. c.in_default.not-OutOfMemory (c.in-Err.ensures.accepts x begun said), refl);
  kept = tt;
  refused = tt;
}
