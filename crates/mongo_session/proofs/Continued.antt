-- How a login goes on: what a message comes to once its login was taken out of the session.
use Rattle.std.proofs.Common.{◌≡◌, ◌⊎◌, ℕ, Bool, true, false, Option, None, Some, Result, Ok, Err, IfOk, List, [], option_copied, sym, ap, subst, ◌∙◌, inl, inr}
use Rattle.std.specs.Borrow.{Bor}
use Rattle.mongo_server.specs.Authentication.{Authentication, close_of}
use Rattle.mongo_server.specs.declared.fault.ServerFault.{ServerFault}
use Rattle.mongo_server.specs.declared.fault.ServerFault.TheVariants.{OutOfMemory}
use Rattle.mongo_server.specs.declared.server_core.ServerCore.{ServerCore}
use Rattle.mongo_server.specs.Server.{ClientFinalRow, HasBegun, IsValidClientFinal}
use Rattle.mongo_server.proofs.ServerRows.{final_no_row}
use Rattle.mongo_session.specs.Last.{AnswersLast, AnswersEmpty}
use Rattle.mongo_session.specs.Sasl.{GoesOn, AnswersContinue}
use Rattle.mongo_bson.specs.declared.fault.BsonFault.{BsonFault}
use Rattle.mongo_session.specs.declared.reply.SaslReply.{SaslReply}
use Rattle.mongo_session.specs.declared.request.ContinueRequest.{ContinueRequest}
use Rattle.mongo_session.specs.declared.session.PendingLogin.{PendingLogin}
use Rattle.mongo_session.specs.declared.session.Session.{Session}

differ : {b : Bool} → b ≡ false → b ≡ true → ⊥
differ p q = cc

one_login : (a b : PendingLogin) (held : Option PendingLogin) → held ≡ Some a → held ≡ Some b → a ≡ b
one_login a b held p q = let same : Some a ≡ Some b = sym p ∙ q in cc

one_message : (given : Option (Bor (List ℕ))) (message : Bor (List ℕ)) (text : List ℕ) → given ≡ Some message → option_copied given ≡ Some text → message.now ≡ text
one_message given message text is said = let same : Some message.now ≡ Some text = sym (ap option_copied is) ∙ said in cc

-- a message that was refused, and not by want of memory, isn't valid
pub not_valid : (core : ServerCore) (message : List ℕ) (fault : ServerFault) → ClientFinalRow core message fault ⊎ (fault ≡ OutOfMemory) → (fault ≡ OutOfMemory → ⊥) → IsValidClientFinal core message → ⊥
not_valid core message fault (inl row) not_memory valid = final_no_row core message valid fault row
not_valid core message fault (inr memory) not_memory valid = not_memory memory

module _ (old : Session) (next : ContinueRequest) (login : PendingLogin) (message : Bor (List ℕ)) (rest : Option PendingLogin) (held : old.login ≡ Some login) (given : next.payload ≡ Some message) (of_conversation : next.is_of_conversation ≡ true) (taken : rest ≡ None)
  where
    goes_on : GoesOn old next login message.now
    goes_on = record { of_conversation = of_conversation; held = held; said = ap option_copied given }

    given_up : (new : Session) → new ≡ record { user = old.user; login = rest } → new ≡ record old { login = None }
    given_up new is = is ∙ (λ i. record { user = old.user; login = taken i })

    -- where its key isn't proved
    last : login.is_proved ≡ false → (new : Session) (answer : Option SaslReply) → AnswersLast (record { user = old.user; login = rest }) login message.now new answer → AnswersContinue old next new answer
    last unproved new (Some answer) h = inl (record { login = login; message = message.now; closes = record { goes_on = goes_on; unproved = unproved; valid = h.valid }; answer_is = h.answer_is; authentic = h.authentic; done_is = h.done_is; new_is = h.new_is })
    last unproved new None h = (
      λ (other : PendingLogin) (text : List ℕ) closes.
          h.0 (subst (IsValidClientFinal login.core) (sym (one_message next.payload message text given closes.goes_on.said)) (subst (λ (l : PendingLogin). IsValidClientFinal l.core text) (one_login other login old.login closes.goes_on.held held) closes.valid)),
      λ (x : Authentication) (other : PendingLogin) closes.
          h.1 x (subst (λ (l : PendingLogin). HasBegun l.core x) (one_login other login old.login closes.goes_on.held held) closes.begun) (one_message next.payload message (close_of x) given closes.goes_on.said),
      λ (other : PendingLogin) ends. differ (ap (λ (l : PendingLogin). l.is_proved) (one_login other login old.login ends.goes_on.held held) ∙ unproved) ends.proved,
      given_up new h.2,
    )

    pub goes_last : login.is_proved ≡ false → (new : Session) (r : Result (Option SaslReply) BsonFault) → IfOk r (AnswersLast (record { user = old.user; login = rest }) login message.now new) → IfOk r (AnswersContinue old next new)
    goes_last unproved new (Ok answer) h = last unproved new answer h
    goes_last unproved new (Err fault) h = tt

    -- where it is
    empty : login.is_proved ≡ true → (new : Session) (answer : Option SaslReply) → AnswersEmpty (record { user = old.user; login = rest }) login message.now new answer → AnswersContinue old next new answer
    empty proved new (Some answer) h = inr (record { login = login; ends = record { goes_on = subst (GoesOn old next login) h.0 goes_on; proved = proved }; answer_is = h.1; new_is = h.2 })
    empty proved new None h = (
      λ (other : PendingLogin) (text : List ℕ) closes. differ closes.unproved (ap (λ (l : PendingLogin). l.is_proved) (one_login other login old.login closes.goes_on.held held) ∙ proved),
      λ (x : Authentication) (other : PendingLogin) closes. differ closes.unproved (ap (λ (l : PendingLogin). l.is_proved) (one_login other login old.login closes.goes_on.held held) ∙ proved),
      λ (other : PendingLogin) ends. h.0 (one_message next.payload message [] given ends.goes_on.said),
      given_up new h.1,
    )

    pub goes_empty : login.is_proved ≡ true → (new : Session) (r : Result (Option SaslReply) BsonFault) → IfOk r (AnswersEmpty (record { user = old.user; login = rest }) login message.now new) → IfOk r (AnswersContinue old next new)
    goes_empty proved new (Ok answer) h = empty proved new answer h
    goes_empty proved new (Err fault) h = tt
