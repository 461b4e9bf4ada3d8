-- A rehearsal's report, from what the establishment over told bytes answers.
use Rattle.std.proofs.Common.{◌≡◌, ℕ, ℤ, ◌+◌, ◌-◌, ◌⊎◌, ◌∙◌, ◌++◌, ap, subst, sym, arith, refl, inl, inr, Some, Option, Result, Ok, Err, List, [], ◌∷◌, length, length-append, append-nil, append_assoc, IfOk, IfErr, IsSome}
use Rattle.std.proofs.lemmas.List.{append_cancel_left}
use Rattle.std.specs.Io.KnownBytes.{Appends, Consumes}
use Rattle.std.specs.List.{AllByRecursion, concat}
use Rattle.mongo_wire.specs.declared.error.ErrorKind.{ErrorKind}
use Rattle.mongo_wire.specs.Outside.{State, Rose, Unfailed, IsFlushed}
use Rattle.mongo_command.specs.Helper.{Given}
use Rattle.mongo_command.specs.Conversation.{Said, IsSaid, IsFlushedAfter}
use Rattle.mongo_command.specs.Exchange.{point}
use Rattle.mongo_scram.specs.Costs.{Ledgers, checkpoint}
use Rattle.mongo_establish.specs.declared.establisher.EstablishError.{EstablishError}
use Rattle.mongo_establish.specs.declared.establisher.HandshakePhase.{HandshakePhase}
use Rattle.mongo_establish.specs.declared.establisher.PooledConnection.{PooledConnection}
use Rattle.mongo_establish.specs.Setup.{Setup, start_of}
use Rattle.mongo_establish.specs.Established.{Established}
use Rattle.mongo_establish.specs.Generation.{generation_of}
use Rattle.mongo_establish.specs.Script.{IsWritten}
use Rattle.mongo_establish.specs.Stopped.{StoppedIn}
use Rattle.mongo_establish.proofs.Establishment.{RefusedBy, stopped_refusal}
use Rattle.mongo_settings.proofs.Sent.{Framed-from_sent, Framed-from_said}
use Rattle.mongo_settings.specs.declared.settings.Settings.{Settings}
use Rattle.mongo_settings.specs.declared.rehearsal.Rehearsal.{Rehearsal}
use Rattle.mongo_settings.specs.Report.{CountsItself, sent_lines, read_count_line, accepted_lines, refused_lines}
use Rattle.mongo_settings.specs.Outcome.{setup_of, accepted, refused}
use Rattle.mongo_settings.specs.Reporting.{IsReportOver, ReportsMade, IsReported, ReportsRefused, ReportsOutcome}
use Rattle.mongo_settings.specs.Rehearsal.{LeftAs}
use Rattle.mongo_settings.specs.Rounds.{is_after_login}
use Rattle.mongo_settings.specs.Costs.{Rehearses}

-- ---- the link

-- A link had these bytes left and some written, and doesn't fail. This was written after these, and this is left.
pub record Replayed (replies output left : List ℕ) (old new : State) : Type 0 where
  pub front : List ℕ
  pub before : old.written ≡ Some front
  pub given : old.left ≡ Some replies
  pub written_is : new.written ≡ Some (front ++ output)
  pub left_is : new.left ≡ Some left
  pub unfailed : Unfailed old new

-- a count that stands still hasn't risen
pub never_rose : Rose 0 0 → ⊥
never_rose r = omega arith

-- how many bytes were taken, from how many are left
taken_length : (bytes taken rest left : List ℕ) → bytes ≡ taken ++ rest → left ≡ rest → length bytes - length left ≡ length taken
taken_length bytes taken rest left whole is =
    let parts : length bytes ≡ length taken + length rest = ap length whole ∙ length-append taken rest in
    let same : length left ≡ length rest = ap length is in
    omega arith

same_some : (a b : List ℕ) → Some a ≡ Some b → a ≡ b
same_some a b e = cc

-- what was written after what was there is what was appended
appended : (front output sent : List ℕ) (old new : Option (List ℕ)) → old ≡ Some front → new ≡ Some (front ++ output) → Appends old new sent → output ≡ sent
appended front output sent old new before is grown =
    let joined : front ++ output ≡ front ++ sent = subst (λ o. Appends (Some front) o sent) is (subst (λ o. Appends o new sent) before grown) in
    append_cancel_left front output sent joined

-- of whole frames, which leave nothing over, all is told
told_whole : (output : List ℕ) (taken : ℕ) (lines text : List ℕ) (frames : List (List ℕ)) → IsReportOver output taken lines text → AllByRecursion CountsItself frames → output ≡ concat frames → text ≡ sent_lines frames ++ (read_count_line taken ++ lines)
told_whole output taken lines text frames tells each joined =
    let front = tells.traffic.told frames [] each refl (joined ∙ sym (append-nil (concat frames))) in
    tells.text_is ∙ ap (λ l. l ++ lines) front ∙ append_assoc (sent_lines frames) (read_count_line taken) lines

consumed : (bytes taken rest : List ℕ) (old new : Option (List ℕ)) → old ≡ Some bytes → new ≡ Some rest → bytes ≡ taken ++ rest → Consumes old new taken
consumed bytes taken rest old new given is joined = rw (given, is) joined

-- where anything was written, all of it is flushed
flushed_after : (commands : List Said) (id : ℤ) (sent bytes : List ℕ) (old new : State) → IsSaid commands id sent → sent ≡ bytes → IsFlushedAfter commands old new → (bytes ≡ []) ⊎ IsFlushed new
flushed_after [] id sent bytes old new said same flushed = inl (sym same ∙ said)
flushed_after (command ∷ commands) id sent bytes old new said same flushed = inr flushed

-- an establishment that ended so is rehearsed, and its link is left as the report says
pub record Replays (settings : Settings) (ended : Result PooledConnection EstablishError) (old new : State) (x : Rehearsal) : Type 0 where
  pub rehearses : Rehearses settings ended x
  pub left_as : LeftAs settings x.report.items rehearses.rehearsal_is.report old new

-- ---- a connection that was made

pub described : (given : List Given) (setup : Setup) (old new : State) (after : ℤ) (first last : Ledgers) (ended : Result PooledConnection EstablishError) → IfOk ended (Established given setup (start_of setup old first) (checkpoint (point new after) last)) → IfOk ended (λ pooled. IsSome pooled.connection.stream_description)
described given setup old new after first last (Ok pooled) made = rw made.connection.description_is refl
described given setup old new after first last (Err refusal) made = tt

made : {given : List Given} (settings : Settings) (old new : State) (after : ℤ) (first last : Ledgers) (pooled : PooledConnection) (output left : List ℕ) (taken : ℕ) (x : Rehearsal)
    → Established given (setup_of settings) (start_of (setup_of settings) old first) (checkpoint (point new after) last) pooled → Replayed settings.replies output left old new → taken ≡ length settings.replies - length left → ReportsMade output taken pooled x → Replays settings (Ok pooled) old new x
made settings old new after first last pooled output left taken x e p taken_is tells =
    let s = e.scripted in
    let sent : output ≡ s.sent = appended p.front output s.sent old.written new.written p.before p.written_is s.written in
    let f = Framed-from_sent _ _ e.script.commands (setup_of settings).first_id s.sent s.is_written in
    let t = s.taken settings.replies p.given in
    let g = e.script.greeting in
    let rest : left ≡ t.rest = same_some left t.rest (sym p.left_is ∙ t.left_is) in
    let count : taken ≡ length t.taken = taken_is ∙ taken_length settings.replies t.taken t.rest left t.joined rest in
    record {
      rehearses = record {
        rehearsal_is = record {
          report = record {
            outcome = accepted (record { script = e.script; taken = t.taken; unread = t.rest });
            is_outcome = record { is_script = s.is_script; joined = t.joined; is_taken = t.is_taken };
            frames = f.frames;
            each_frame = f.each;
            sent = subst (IsWritten (setup_of settings) e.script) f.joined s.is_written;
            text_is = told_whole output taken _ _ f.frames (tells.text g.description e.connection.description_is) f.each (sent ∙ f.joined)
                ∙ ap (λ n. sent_lines f.frames ++ (read_count_line n ++ accepted_lines g.description pooled.generation pooled.connection.server_id)) count
                ∙ ap (λ generation. sent_lines f.frames ++ (read_count_line (length t.taken) ++ accepted_lines g.description generation pooled.connection.server_id)) e.generation
                ∙ ap (λ i. sent_lines f.frames ++ (read_count_line (length t.taken) ++ accepted_lines g.description (generation_of (setup_of settings).pending.generation g.description) i)) e.connection.server_id;
          };
          status_is = tells.status;
        };
        logs_in_is = refl;
      };
      left_as = record {
        written = subst (Appends old.written new.written) f.joined s.written;
        flushed = inr s.flushed;
        taken = consumed settings.replies t.taken t.rest old.left new.left p.given t.left_is t.joined;
      };
    }

-- ---- a refusal

told_refusal : {given : List Given} (settings : Settings) (kind : ErrorKind) (phase : HandshakePhase) (old new : State) (after : ℤ) (output left : List ℕ) (taken : ℕ) (refusal : EstablishError) (x : Rehearsal)
    → refusal.cause.kind ≡ kind → refusal.handshake_phase ≡ phase → RefusedBy given phase (setup_of settings) settings.replies kind old new after
    → Replayed settings.replies output left old new → taken ≡ length settings.replies - length left → ReportsRefused output taken refusal x → Replays settings (Err refusal) old new x
told_refusal settings kind phase old new after output left taken refusal x kind_is phase_is r p taken_is tells =
    let l = r.left_by in
    let first = r.refusal in
    let sent : output ≡ l.sent = appended p.front output l.sent old.written new.written p.before p.written_is l.written in
    let f = Framed-from_said first.commands (setup_of settings).first_id l.sent l.sent_is in
    let rest : left ≡ first.unread = same_some left first.unread (sym p.left_is ∙ l.left) in
    let count : taken ≡ length first.taken = taken_is ∙ taken_length settings.replies first.taken first.unread left r.joined rest in
    record {
      rehearses = record {
        rehearsal_is = record {
          report = record {
            outcome = refused first;
            is_outcome = r.is_refusal;
            frames = f.frames;
            each_frame = f.each;
            sent = subst (IsSaid first.commands (setup_of settings).first_id) f.joined l.sent_is;
            text_is = told_whole output taken _ _ f.frames tells.text f.each (sent ∙ f.joined)
                ∙ ap (λ n. sent_lines f.frames ++ (read_count_line n ++ refused_lines refusal.handshake_phase refusal.cause.kind)) count
                ∙ ap (λ p. sent_lines f.frames ++ (read_count_line (length first.taken) ++ refused_lines p refusal.cause.kind)) (phase_is ∙ sym r.phase_is)
                ∙ ap (λ k. sent_lines f.frames ++ (read_count_line (length first.taken) ++ refused_lines first.phase k)) (kind_is ∙ sym r.kind_is);
          };
          status_is = tells.status;
        };
        logs_in_is = ap is_after_login (r.kind_is ∙ sym kind_is);
      };
      left_as = record {
        written = subst (Appends old.written new.written) f.joined l.written;
        flushed = flushed_after first.commands (setup_of settings).first_id l.sent (concat f.frames) old new l.sent_is f.joined l.flushed;
        taken = consumed settings.replies first.taken first.unread old.left new.left p.given l.left r.joined;
      };
    }

unmade : (given : List Given) (settings : Settings) (old new : State) (after : ℤ) (first last : Ledgers) (refusal : EstablishError) (output left : List ℕ) (taken : ℕ) (x : Rehearsal)
    → StoppedIn given refusal.handshake_phase (setup_of settings) refusal.cause.kind (start_of (setup_of settings) old first) (checkpoint (point new after) last) → Replayed settings.replies output left old new → taken ≡ length settings.replies - length left → ReportsRefused output taken refusal x → Replays settings (Err refusal) old new x
unmade given settings old new after first last refusal output left taken x s p taken_is tells =
    elim (stopped_refusal refusal.handshake_phase (setup_of settings) refusal.cause.kind old new after first last settings.replies s p.given p.unfailed) [
      | inl memory ↦ absurd (subst IsReported memory tells.reported)
      | inr r ↦ told_refusal settings refusal.cause.kind refusal.handshake_phase old new after output left taken refusal x refl refl r p taken_is tells
    ]

-- ---- either

-- however an establishment ended, what is told of it is the report
pub rehearsed : (given : List Given) {E : Type 0} (settings : Settings) (setup : Setup) (old new : State) (after : ℤ) (first last : Ledgers) (output left : List ℕ) (taken : ℕ) (ended : Result PooledConnection EstablishError) (r : Result Rehearsal E)
    → setup ≡ setup_of settings → IfOk ended (Established given setup (start_of setup old first) (checkpoint (point new after) last)) → IfErr ended (λ e. StoppedIn given e.handshake_phase setup e.cause.kind (start_of setup old first) (checkpoint (point new after) last))
    → Replayed settings.replies output left old new → taken ≡ length settings.replies - length left → IfOk r (ReportsOutcome output taken ended) → IfOk r (Replays settings ended old new)
rehearsed given settings setup old new after first last output left taken (Ok pooled) (Ok x) same m s p taken_is tells = made settings old new after first last pooled output left taken x (subst (λ a. Established given a (start_of a old first) (checkpoint (point new after) last) pooled) same m) p taken_is tells
rehearsed given settings setup old new after first last output left taken (Err refusal) (Ok x) same m s p taken_is tells = unmade _ settings old new after first last refusal output left taken x (subst (λ a. StoppedIn given refusal.handshake_phase a refusal.cause.kind (start_of a old first) (checkpoint (point new after) last)) same s) p taken_is tells
rehearsed given settings setup old new after first last output left taken ended (Err error) same m s p taken_is tells = tt
