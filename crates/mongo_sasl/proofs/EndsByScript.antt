-- A login whose mechanism's script joins plan and whole lists ends by it, where it is accepted or refused by its plan.
use Rattle.std.proofs.Common.{◌≡◌, ℕ, ℤ, inl, inr, None, Some, Result, Ok, Err, List, [], IfErr, OnOk}
use Rattle.std.specs.Result.{IsErrAnd}
use Rattle.mongo_wire.specs.declared.error.Error.{Error}
use Rattle.mongo_wire.specs.declared.error.ErrorKind.{ErrorKind}
use Rattle.mongo_wire.specs.declared.error.ErrorKind.TheVariants.{OutOfMemory}
use Rattle.mongo_wire.specs.Buffer.{frames_taken, held_document, IsFrameTaken}
use Rattle.mongo_wire.specs.Outside.{State, Unfailed, risen}
use Rattle.mongo_command.specs.Connection.{kept_fault}
use Rattle.mongo_command.specs.Conversation.{Said, Turn, refuses, ends, Plan, ReachedGiven, LeadsGiven}
use Rattle.mongo_command.specs.Exchange.{point}
use Rattle.mongo_command.specs.Helper.{Given}
use Rattle.mongo_command.proofs.Leads.{only_end_given, only_refusal_given}
use Rattle.mongo_sasl.specs.EndsByScript.{Standing, StopsBy, EndsByScript, HoldsItsReply}
use Rattle.mongo_sasl.specs.Login.{HasLogin, AnswersLed, EndsByReply}
use Rattle.mongo_sasl.specs.Stops.{StoppedWith}
use Rattle.mongo_sasl.proofs.Handed.{handed_on, on_answer}
use Rattle.mongo_sasl.proofs.Joining.{JoinsLogin}
use Rattle.mongo_sasl.proofs.LastReply.{ends_reached}
use Rattle.mongo_sasl.proofs.LoginEvents.{login_leads}
use Rattle.mongo_sasl.proofs.StopsBy.{not_both_faults, stopped_by}

module _ {A : Type 0} (given : List Given) (plan : Plan A) (login : List Given → List (List ℕ) → List (List ℕ) → Type 0) (maximum : ℤ) (joins : JoinsLogin plan login maximum) (old new : State) (before after : ℤ) where
  -- over told bytes an answer is what they call for
  led : (r : Result (Unit {0}) Error) (granted : List Given) (bytes taken unread : List ℕ) (outcome : Turn A) (commands : List Said) → OnOk r ((answer : A) × ReachedGiven given plan answer (point old before) (point new after)) → IfErr r (λ e. StoppedWith given plan e.kind (point old before) (point new after)) → old.left ≡ Some bytes → LeadsGiven granted plan bytes outcome commands taken unread
      → Unfailed old new → AnswersLed granted given r outcome commands unread (point old before) (point new after)
  led (Ok done) granted bytes taken unread outcome commands reached stopped is l unfailed =
      let end = only_end_given plan reached.0 outcome old new before after bytes commands taken unread joins.one reached.1 is l in
      (reached.0, end.0, end.1, end.2)
  led (Err e) granted bytes taken unread outcome commands reached stopped is l unfailed = only_refusal_given plan e.kind outcome old new before after bytes commands taken unread joins.one stopped.1 is l unfailed

  -- where a login stands at their front, only memory is wanted
  completed : (r : Result (Unit {0}) Error) (bytes : List ℕ) → IfErr r (λ e. StoppedWith given plan e.kind (point old before) (point new after)) → old.left ≡ Some bytes → HasLogin login maximum before bytes
      → Unfailed old new → IfErr r (λ e. e.kind ≡ OutOfMemory)
  completed (Ok done) bytes stopped is has unfailed = tt
  completed (Err e) bytes stopped is has unfailed =
      let found = joins.ends has.given has.commands has.replies has.is_login in
      let l = login_leads plan login found.0 maximum before bytes has found.1 in
      elim (only_refusal_given plan e.kind (ends found.0) old new before after bytes l.commands has.taken has.rest joins.one stopped.1 is l.leads unfailed) [
        | inl memory ↦ memory
        | inr other ↦ let same : ◌≡◌ {A = Turn A} (ends found.0) (refuses e.kind) = other.1 in let no : ⊥ = cc in absurd no
      ]

module _ {L A : Type 0} (given : List Given) (state : L → State) (plan : Plan A) (login : List Given → List (List ℕ) → List (List ℕ) → Type 0) (maximum : ℤ) (joins : JoinsLogin plan login maximum) (old new : Standing L) where
  pub ends_by_script : (r : Result (Unit {0}) Error) → OnOk r ((answer : A) × ReachedGiven given plan answer (point (state old.link) old.id) (point (state new.link) new.id)) → (kept_fault old.connection ≡ None → OnOk r (kept_fault new.connection ≡ None))
      → ((kind : ErrorKind) → kept_fault old.connection ≡ Some kind → OnOk r ((answer : A) × plan [] (ends answer))) → StopsBy given state plan r old new → EndsByScript given state plan login maximum r old new
  ends_by_script r reached faultless at_once stops = record {
    accepted = reached;
    faultless = faultless;
    at_once = at_once;
    stops = stops;
    complete = λ bytes none is has unfailed. completed given plan login maximum joins (state old.link) (state new.link) old.id new.id r bytes (stopped_by given state plan r old new stops none) is has unfailed;
    exact = λ granted bytes taken unread outcome commands none is leads unfailed. led given plan login maximum joins (state old.link) (state new.link) old.id new.id r granted bytes taken unread outcome commands reached (stopped_by given state plan r old new stops none) is leads unfailed;
  }

  -- one that was refused, and hands the refusal on
  pub refused_by_script : (r : Result (Unit {0}) Error) (e : Error) → IsErrAnd r (λ x. x ≡ e) → StopsBy {T = Unit {0}} given state plan (Err e) old new → EndsByScript given state plan login maximum r old new
  refused_by_script r e handed stops = handed_on (λ x. EndsByScript given state plan login maximum x old new) r e handed (ends_by_script (Err e) tt (λ none. tt) (λ kind is. tt) stops)

module _ {L A : Type 0} (state : L → State) (plan : Plan A) (login : List Given → List (List ℕ) → List (List ℕ) → Type 0) (maximum : ℤ) (joins : JoinsLogin plan login maximum) (old new : Standing L) where
  reached_by : (answer : A) (document : List ℕ) (r : Result (Unit {0}) Error) → OnOk r (EndsByReply plan answer document (point (state old.link) old.id) (point (state new.link) new.id)) → OnOk r ((answer : A) × ReachedGiven [] plan answer (point (state old.link) old.id) (point (state new.link) new.id))
  reached_by answer document (Ok done) is = (answer, ends_reached plan answer document (state old.link) (state new.link) old.id new.id is)
  reached_by answer document (Err e) is = tt

  -- one that its one exchange ended, or that the reply refused
  pub once_by_script : (answer : A) (document : List ℕ) (r : Result (Unit {0}) Error) → OnOk r (EndsByReply plan answer document (point (state old.link) old.id) (point (state new.link) new.id)) → kept_fault old.connection ≡ None → kept_fault new.connection ≡ None → StopsBy [] state plan r old new → EndsByScript [] state plan login maximum r old new
  once_by_script answer document r reply was none stops = ends_by_script [] state plan login maximum joins old new r (reached_by answer document r reply) (λ faultless. on_answer r _ none) (λ kind is. absurd (not_both_faults (kept_fault old.connection) kind was is)) stops

-- what an exchange took into a buffer, where its reply ended the login
pub holds_its_reply : {L A : Type 0} (state : L → State) (plan : Plan A) (answer : A) (maximum : ℤ) (old new : Standing L) (r : Result (Unit {0}) Error)
    → frames_taken new.buffer ≡ risen (frames_taken old.buffer) → IsFrameTaken maximum (state old.link) (state new.link) new.buffer → OnOk r (EndsByReply plan answer (held_document new.buffer) (point (state old.link) old.id) (point (state new.link) new.id))
    → OnOk r (HoldsItsReply state plan answer maximum old new)
holds_its_reply state plan answer maximum old new (Ok done) frames taken reply = record { frames = frames; taken = taken; reply = reply }
holds_its_reply state plan answer maximum old new (Err e) frames taken reply = tt
