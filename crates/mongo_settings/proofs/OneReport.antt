-- Settings have one outcome and one report.
use Rattle.std.proofs.Common.{◌≡◌, ℕ, ◌∙◌, ◌++◌, ap, subst, sym, refl, Result, Ok, Err, List, [], ◌∷◌, length, take, drop, append-nil, IfOk}
use Rattle.std.proofs.Math.Seq.{take-append_seam, drop-append_seam}
use Rattle.std.specs.List.{AllByRecursion, concat}
use Rattle.mongo_command.specs.Conversation.{IsSaid}
use Rattle.mongo_command.proofs.OneSaid.{one_said}
use Rattle.mongo_establish.specs.Generation.{generation_of}
use Rattle.mongo_establish.specs.Script.{IsWritten}
use Rattle.mongo_establish.proofs.Establishment.{one_script, one_refusal, script_unrefused}
use Rattle.mongo_settings.specs.declared.settings.Settings.{Settings}
use Rattle.mongo_settings.specs.declared.rehearsal.Rehearsal.{Rehearsal}
use Rattle.mongo_settings.specs.declared.rehearsal.RehearsalStatus.TheVariants.{Accepted, Refused}
use Rattle.mongo_settings.specs.Report.{CountsItself, front_length, sent_lines, read_count_line, accepted_lines, refused_lines}
use Rattle.mongo_settings.specs.Outcome.{setup_of, AcceptedConnection, IsAcceptance, Outcome, accepted, refused, IsOutcome, WritesOutcome, taken_by, status_of, LeadsToAcceptance, IsRefused}
use Rattle.mongo_settings.specs.Rehearsal.{outcome_lines, IsReport, IsRehearsal}
use Rattle.mongo_settings.proofs.Frames.{no_frames, next_frame, front_length-front}

-- frames that tell their lengths are told by their bytes
one_framing : (frames others : List (List ℕ)) → AllByRecursion CountsItself frames → AllByRecursion CountsItself others → concat frames ≡ concat others → frames ≡ others
one_framing [] others each also joined = sym (no_frames others [] also (ap front_length (append-nil (concat others) ∙ sym joined)))
one_framing (frame ∷ frames) others each also joined =
    let same : frame ++ concat frames ≡ concat others ++ [] = joined ∙ sym (append-nil (concat others)) in
    let next = next_frame others [] (length frame) also refl (ap front_length (sym same) ∙ front_length-front frame (concat frames) each.0) in
    let first : frame ≡ next.frame = sym (take-append_seam frame (concat frames)) ∙ ap (take (length frame)) same ∙ next.front in
    let rest : concat frames ≡ concat next.others = sym (drop-append_seam frame (concat frames)) ∙ ap (drop (length frame)) same ∙ next.back ∙ append-nil (concat next.others) in
    ap (λ f. f ∷ frames) first ∙ ap (λ l. next.frame ∷ l) (one_framing frames next.others each.1 next.each rest) ∙ sym next.both

-- what two outcomes agree in
record SameOutcome (settings : Settings) (outcome other : Outcome) (bytes more : List ℕ) : Type 0 where
  lines : outcome_lines settings outcome ≡ outcome_lines settings other
  count : length (taken_by outcome) ≡ length (taken_by other)
  sent : bytes ≡ more

abbrev script_of : (settings : Settings) (acceptance : AcceptedConnection) (bytes : List ℕ) → IsAcceptance settings acceptance → IsWritten (setup_of settings) acceptance.script bytes → LeadsToAcceptance settings
script_of settings acceptance bytes is written = record { script = acceptance.script; is_script = is.is_script; sent = bytes; is_written = written; taken = acceptance.taken; rest = acceptance.unread; joined = is.joined; is_taken = is.is_taken }

same_outcome : (settings : Settings) (outcome other : Outcome) (bytes more : List ℕ) → IsOutcome settings outcome → IsOutcome settings other → WritesOutcome settings outcome bytes → WritesOutcome settings other more → SameOutcome settings outcome other bytes more
same_outcome settings (accepted a) (accepted b) bytes more p q w v =
    let same = one_script (setup_of settings) settings.replies (script_of settings a bytes p w) (script_of settings b more q v) in
    record {
      lines = ap (λ g. accepted_lines g.description (generation_of (setup_of settings).pending.generation g.description) g.connection_id) same.greeting;
      count = ap length same.taken;
      sent = same.sent;
    }
same_outcome settings (accepted a) (refused r) bytes more p q w v = absurd (script_unrefused (setup_of settings) settings.replies r.phase r (script_of settings a bytes p w) q)
same_outcome settings (refused r) (accepted a) bytes more p q w v = absurd (script_unrefused (setup_of settings) settings.replies r.phase r (script_of settings a more q v) p)
same_outcome settings (refused r) (refused s) bytes more p q w v =
    let same = one_refusal (setup_of settings) settings.replies r.phase s.phase r s p q in
    record {
      lines = ap (λ phase. refused_lines phase r.kind) same.0 ∙ ap (λ kind. refused_lines s.phase kind) same.1.kind;
      count = ap length same.1.taken;
      sent = one_said s.commands (setup_of settings).first_id bytes more (subst (λ commands. IsSaid commands (setup_of settings).first_id bytes) same.1.commands w) v;
    }

pub one_report : (settings : Settings) (text other : List ℕ) → IsReport settings text → IsReport settings other → text ≡ other
one_report settings text other r s =
    let same = same_outcome settings r.outcome s.outcome (concat r.frames) (concat s.frames) r.is_outcome s.is_outcome r.sent s.sent in
    let frames = one_framing r.frames s.frames r.each_frame s.each_frame same.sent in
    r.text_is
    ∙ ap (λ f. sent_lines f ++ (read_count_line (length (taken_by r.outcome)) ++ outcome_lines settings r.outcome)) frames
    ∙ ap (λ n. sent_lines s.frames ++ (read_count_line n ++ outcome_lines settings r.outcome)) same.count
    ∙ ap (λ lines. sent_lines s.frames ++ (read_count_line (length (taken_by s.outcome)) ++ lines)) same.lines
    ∙ sym s.text_is

pub only_report : {E : Type 0} (settings : Settings) (r : Result Rehearsal E) → IfOk r (IsRehearsal settings) → IfOk r (λ x. (text : List ℕ) → IsReport settings text → text ≡ x.report.items)
only_report settings (Ok x) h = λ text is. one_report settings text x.report.items is h.report
only_report settings (Err e) h = tt

-- reply bytes that begin with a script's come out accepted, and those that lead to a refusal refused
pub accepted_status : (settings : Settings) (outcome : Outcome) → LeadsToAcceptance settings → IsOutcome settings outcome → status_of outcome ≡ Accepted
accepted_status settings (accepted a) script is = refl
accepted_status settings (refused r) script is = absurd (script_unrefused (setup_of settings) settings.replies r.phase r script is)

pub refused_status : (settings : Settings) (outcome : Outcome) (bytes : List ℕ) → IsRefused settings → IsOutcome settings outcome → WritesOutcome settings outcome bytes → status_of outcome ≡ Refused
refused_status settings (accepted a) bytes r is w = absurd (script_unrefused (setup_of settings) settings.replies r.refusal.phase r.refusal (script_of settings a bytes is w) r.is_refusal)
refused_status settings (refused s) bytes r is w = refl
