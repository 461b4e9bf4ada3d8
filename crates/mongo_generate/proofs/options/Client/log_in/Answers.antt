use Rattle.std.proofs.Common.{MatchOption, ◌≡◌, subst, Result, Ok, Err, OnOk}
use Rattle.mongo_server.specs.Authentication.{close_of}
use Rattle.mongo_generate.specs.Acceptance.{AreAuthenticationReplies}
use Rattle.mongo_generate.proofs.options.Client.log_in.Goals as goal

pub returns-clause-accepted : goal.returns-clause-accepted
returns-clause-accepted g c = λ x logs serves.
    let replies = subst (λ replies. MatchOption replies ⊥ (AreAuthenticationReplies x)) c.in-Some.is (c.in_ok-replies.ensures.heard x logs serves) in
    let closes = c.in_ok-client_final.ensures.closes x logs replies in
    let is : c.in-Some-2.client_final ≡ close_of x = cc in
    c.acceptance.ensures.accepted x (c.in_ok-replies.ensures.begun x logs serves) is

-- what holds however it ends holds of an answer
on_answer : {T E : Type 0} (r : Result T E) (Holds : Type 0) → Holds → OnOk r Holds
on_answer (Ok x) Holds is = is
on_answer (Err e) Holds is = tt

pub returns-clause-takes : goal.returns-clause-takes
returns-clause-takes g c = λ x logs serves. on_answer c.acceptance.result _
    (c.in_ok-client_final.ensures.takes x logs (subst (λ replies. MatchOption replies ⊥ (AreAuthenticationReplies x)) c.in-Some.is (c.in_ok-replies.ensures.heard x logs serves)))
