use Rattle.std.proofs.Common.{IfSome, MatchOption, ap, Some, subst}
use Rattle.mongo_server.specs.Authentication.{close_of}
use Rattle.mongo_generate.specs.Written.{CarriesPayloadLast, CarriesAnyLast}
use Rattle.mongo_generate.proofs.options.Client.close.Goals as goal

pub client_final-requires : goal.client_final-requires
client_final-requires g c = record { carried = subst (λ written. IfSome written CarriesAnyLast) c.in-Some.is c.in_ok-written.ensures.carried }

pub returns-in_ok-client_final-in-Some-clause-closes : goal.returns-in_ok-client_final-in-Some-clause-closes
returns-in_ok-client_final-in-Some-clause-closes g c = λ x logs replies.
    ap Some (c.in_ok-client_final-in-Some.ensures.found (close_of x) (subst (λ written. MatchOption written ⊥ (CarriesPayloadLast (close_of x))) c.in-Some.is (c.in_ok-written.ensures.written x logs replies)))
