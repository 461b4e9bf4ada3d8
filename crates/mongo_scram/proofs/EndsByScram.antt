-- A SCRAM login ends by its script, where it is accepted or stopped by its opening and its closing.
use Rattle.std.proofs.Common.{◌≡◌, ◌⊎◌, sym, subst, inl, inr, None, Some, Result, Ok, Err, [], IfErr, OnOk, OnErr}
use Rattle.std.proofs.lemmas.Result.{IfErr-weaker}
use Rattle.std.specs.Result.{IsErrAnd}
use Rattle.mongo_wire.specs.declared.error.Error.{Error}
use Rattle.mongo_wire.specs.declared.error.ErrorKind.{ErrorKind}
use Rattle.mongo_wire.specs.Outside.{State}
use Rattle.mongo_command.specs.Connection.{kept_fault, KeepsRest}
use Rattle.mongo_command.specs.Conversation.{Reached}
use Rattle.mongo_command.specs.Exchange.{CountsStay, point}
use Rattle.mongo_sasl.specs.EndsByScript.{Standing, LeavesInBuffer, StopsBy}
use Rattle.mongo_sasl.specs.Login.{unasked}
use Rattle.mongo_sasl.proofs.EndsByScript.{ends_by_script}
use Rattle.mongo_sasl.proofs.Handed.{handed_on, on_answer}
use Rattle.mongo_sasl.proofs.AtOnce.{keeping_none}
use Rattle.mongo_sasl.proofs.StopsBy.{not_both_faults}
use Rattle.mongo_scram.specs.Costs.{Ledgers, Checkpoint, SameEntries, Accepted, FaultCosts, ScramRefused}
use Rattle.mongo_scram.specs.EndsByScram.{checkpoint_at, EndsByScram}
use Rattle.mongo_scram.specs.Plan.{Handed, Challenge, scram_plan}
use Rattle.mongo_scram.specs.Script.{IsScramLogin}
use Rattle.mongo_scram.proofs.LoginSteps.{StopsScram}
use Rattle.mongo_scram.proofs.ScramCosts.{accepted_reached, fault_begins, refused_whole}
use Rattle.mongo_scram.proofs.ScramJoins.{scram_joins}

module _ {L : Type 0} (state : L → State) (handed : Handed) (old new : Standing L) (earlier later : Ledgers) where
  abbrev before : Checkpoint
  before = checkpoint_at state old earlier

  abbrev after : Checkpoint
  after = checkpoint_at state new later

  -- nothing is done over a connection that keeps a fault
  abbrev Untouched : Type 0
  Untouched = (kind : ErrorKind) → kept_fault old.connection ≡ Some kind → (new.link ≡ old.link) × (new.id ≡ old.id) × (new.buffer ≡ old.buffer) × (kept_fault new.connection ≡ Some kind)

  -- where no id was drawn, the buffer is what it was
  abbrev LeavesBuffer : Type 0
  LeavesBuffer = new.id ≡ old.id → new.buffer ≡ old.buffer

  abbrev AnswersFault : ErrorKind → ErrorKind → Type 0
  AnswersFault reason kind = ((reason ≡ kind) × FaultCosts handed earlier later) ⊎ ScramRefused handed reason earlier later

  -- a refusal is handed on
  pub refused_scram : (r : Result (Unit {0}) Error) (e : Error) → IsErrAnd r (λ x. x ≡ e) → (kept_fault old.connection ≡ None → StopsScram handed e.kind (kept_fault new.connection) before after) → ((kind : ErrorKind) → kept_fault old.connection ≡ Some kind → AnswersFault e.kind kind) → SameEntries earlier later
      → Untouched → LeavesBuffer → LeavesInBuffer state old new → KeepsRest old.connection new.connection → CountsStay (state old.link) (state new.link) → EndsByScram state handed r old new earlier later
  refused_scram r e passed refused answers entries untouched buffer leaves rest counts =
      let stops : StopsBy {T = Unit {0}} [] state (scram_plan handed) (Err e) old new = record {
        refused = λ faultless. (refused faultless).1;
        untouched = untouched;
        answers = λ kind is. elim (answers kind is) [ inl same ↦ inl (same.0, fault_begins handed earlier later same.1) | inr at_once ↦ inr (refused_whole handed e.kind earlier later at_once) ];
        buffer = buffer;
        leaves = leaves;
        rest = rest;
        counts = counts;
      } in
      handed_on (λ x. EndsByScram state handed x old new earlier later) r e passed (record {
        script = ends_by_script [] state (scram_plan handed) (unasked (IsScramLogin handed)) handed.maximum (scram_joins handed) old new (Err e) tt (λ none. tt) (λ kind is. tt) stops;
        accepted = tt;
        refused = λ faultless. (refused faultless).0;
        answers = answers;
        entries = entries;
      })

  -- one between the exchanges
  pub stopped_scram : (r : Result (Unit {0}) Error) (e : Error) → IsErrAnd r (λ x. x ≡ e) → StopsScram handed e.kind None before after → ((kind : ErrorKind) → kept_fault old.connection ≡ Some kind → ScramRefused handed e.kind earlier later) → (kept_fault old.connection ≡ None → kept_fault new.connection ≡ None) → SameEntries earlier later
      → Untouched → LeavesBuffer → LeavesInBuffer state old new → KeepsRest old.connection new.connection → CountsStay (state old.link) (state new.link) → EndsByScram state handed r old new earlier later
  stopped_scram r e passed stopped at_once faultless entries untouched buffer leaves rest counts =
      refused_scram r e passed (λ none. subst (λ kept. StopsScram handed e.kind kept before after) (sym (faultless none)) stopped) (λ kind is. inr (at_once kind is)) entries untouched buffer leaves rest counts

  reached : (r : Result (Unit {0}) Error) → OnOk r (Accepted handed new.buffer before after) → OnOk r ((c : Challenge) × Reached (scram_plan handed) c (point (state old.link) old.id) (point (state new.link) new.id))
  reached (Ok done) accepted = (accepted.challenge, accepted_reached handed new.buffer before after accepted)
  reached (Err e) accepted = tt

  -- after the last exchange it is accepted, or memory runs out
  pub accepted_scram : (r : Result (Unit {0}) Error) → OnOk r (Accepted handed new.buffer before after) → IfErr r (λ e. StopsScram handed e.kind None before after) → OnErr r (SameEntries earlier later)
      → kept_fault old.connection ≡ None → kept_fault new.connection ≡ None → LeavesBuffer → LeavesInBuffer state old new → KeepsRest old.connection new.connection → CountsStay (state old.link) (state new.link) → EndsByScram state handed r old new earlier later
  accepted_scram r accepted stopped entries was none buffer leaves rest counts =
      let stops : StopsBy [] state (scram_plan handed) r old new = record {
        refused = λ faultless. keeping_none r (scram_plan handed) (state old.link) (state new.link) old.id new.id (kept_fault new.connection) none (IfErr-weaker r _ _ (λ (e : Error). λ (s : StopsScram handed e.kind None before after). s.1) stopped);
        untouched = λ kind is. absurd (not_both_faults (kept_fault old.connection) kind was is);
        answers = λ kind is. absurd (not_both_faults (kept_fault old.connection) kind was is);
        buffer = buffer;
        leaves = leaves;
        rest = rest;
        counts = counts;
      } in
      record {
        script = ends_by_script [] state (scram_plan handed) (unasked (IsScramLogin handed)) handed.maximum (scram_joins handed) old new r (reached r accepted) (λ faultless. on_answer r _ none) (λ kind is. absurd (not_both_faults (kept_fault old.connection) kind was is)) stops;
        accepted = accepted;
        refused = λ faultless. IfErr-weaker r _ _ (λ (e : Error). λ (s : StopsScram handed e.kind None before after). s.0) stopped;
        answers = λ kind is. absurd (not_both_faults (kept_fault old.connection) kind was is);
        entries = entries;
      }
