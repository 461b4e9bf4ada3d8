-- What the ends of a run mean, from what its steps answer.
use Rattle.std.proofs.Common.{◌≡◌, ℕ, ◌+◌, ◌^◌, ◌<◌, ◌∙◌, refl, ap, subst, sym, arith, Ok, Err, List, length}
use Rattle.std.proofs.Common.{length-drop}
use Rattle.std.proofs.lemmas.Bool.Decides.{nat_tests}
use Rattle.std.specs.Io.KnownBytes.{Appends, Consumes}
use Rattle.std.specs.List.{concat, position_or_len}
use Rattle.mongo_wire.specs.Outside.{State, Rose, Unfailed, IsFlushed, NoReadFailed, EndsAtMostOnce, NoWriteFailed}
use Rattle.mongo_settings.specs.declared.settings.Settings.{Settings}
use Rattle.mongo_settings.specs.declared.settings.SettingsError.{SettingsError}
use Rattle.mongo_settings.specs.declared.settings.SettingsError.TheVariants.{BadSettings as Bad, NotBuilt as Unbuilt}
use Rattle.mongo_settings.specs.declared.rehearsal.Rehearsal.{Rehearsal}
use Rattle.mongo_settings.specs.declared.rehearsal.RehearsalStatus.{RehearsalStatus}
use Rattle.mongo_settings.specs.declared.rehearsal.RehearsalStatus.TheVariants as rehearsal
use Rattle.mongo_settings.specs.Run.{Run}
use Rattle.mongo_settings.specs.Settings.{maximum_settings_length}
use Rattle.mongo_settings.specs.Status.{status_after, JudgementDecides}
use Rattle.mongo_settings.specs.Outcome.{taken_by}
use Rattle.mongo_settings.specs.Task.{StepCounts}
use Rattle.mongo_settings.proofs.Endings.{decides_ok, decides_bad, decides_unbuilt, decides_memory}
use Rattle.mongo_settings.proofs.Outcomes.{one_status}
use Rattle.mongo_settings.specs.declared.status.Status.{Status}
use Rattle.mongo_settings.specs.declared.status.Status.TheVariants.{Done, Refused, BadSettings, Usage, SourceFault, SinkFault, NoMemory, NotBuilt}
use Rattle.mongo_connect.specs.Connecting.{IsConnectionReported, TellsBytes, ReportsConnection}
use Rattle.mongo_connect.specs.Input.{is_line_feed, line_of, after_line, LineRead}
use Rattle.mongo_connect.specs.Settings.{line_judged, with_replies}
use Rattle.mongo_connect.specs.Run.{Connected, Attempt, ConnectReported, IsRefusedLine, IsSilent, LineRanOut, Ends, ConnectRunEnds, ConnectUnfailed, LineComesOut, ConnectDecided}

-- ---- after the line

-- what follows a line is no more than its input
after_line_short : (input : List ℕ) → length input < 2 ^ 64 → length (after_line input) < 2 ^ 64
unfolding after_line
after_line_short input fits = grind (arith, nat_tests, length-drop (position_or_len is_line_feed input + 1) input, length-drop (maximum_settings_length + 1) input)

told_after : (input line : List ℕ) (old middle : State) → LineRead line old middle → TellsBytes old input → TellsBytes middle (after_line input)
told_after input line old middle read told = record {
  left = read.left input told.left;
  fits = after_line_short input told.fits;
  before = told.before;
  written = read.on.unwritten.written ∙ told.written;
}

-- a fault after the line is one of the run
unfailed_after : (line : List ℕ) (old middle new : State) → LineRead line old middle → Unfailed old new → Unfailed middle new
unfailed_after line old middle new read f = record {
  reads = λ rose. f.reads (subst (λ n. Rose n new.read_faults) read.unfailed rose);
  writes = λ rose. f.writes (subst (λ n. Rose n new.write_faults) read.on.unwritten.writes rose);
}

-- what the settings of the line asked for, over told bytes
connected : (input line : List ℕ) (settings : Settings) (steps : StepCounts) (old middle new : State) (x : Rehearsal) → LineRead line old middle → line_judged line ≡ Ok settings
    → ((bytes : List ℕ) → TellsBytes middle bytes → Unfailed middle new → ReportsConnection settings bytes steps middle new x) → TellsBytes old input → Unfailed old new → Connected input steps x old new
connected input line settings steps old middle new x read judged rehearses told f =
    let r = rehearses (after_line input) (told_after input line old middle read told) (unfailed_after line old middle new read f) in
    record {
      settings = settings;
      settings_are = ap line_judged (sym (read.line_is input told.left)) ∙ judged;
      report = r.rehearsal_is.report;
      status_is = r.rehearsal_is.status_is;
      written = subst (λ w. Appends w new.written (concat r.rehearsal_is.report.frames)) read.on.unwritten.written r.left_as.written;
      flushed = r.left_as.flushed;
      taken = subst (λ l. Consumes l new.left (taken_by r.rehearsal_is.report.outcome)) (read.left input told.left) r.left_as.taken;
      counted = r.counted;
    }

pub attempt : (line : List ℕ) (settings : Settings) (steps : StepCounts) (old middle new : State) (x : Rehearsal)
    → LineRead line old middle → line_judged line ≡ Ok settings → IsConnectionReported settings steps middle new x → ((bytes : List ℕ) → TellsBytes middle bytes → Unfailed middle new → ReportsConnection settings bytes steps middle new x) → Attempt steps x old new
attempt line settings steps old middle new x read judged told rehearses = record {
  told = record { line = line; middle = middle; line_read = read; settings = settings; settings_are = judged; done = told };
  connected = λ input is f. connected input line settings steps old middle new x read judged rehearses is f;
}

module _ {L K : Type 0} (link : L → State) (sink : K → State) (steps : StepCounts) (run : Run L K) where
  -- ---- each end

  pub ends_refused : (line : List ℕ) (error : SettingsError) → LineRead line (link run.source) (link run.source_after) → line_judged line ≡ Err error → run.sink_after ≡ run.sink → IsRefusedLine link sink error run
  ends_refused line error read judged unreported = record { line = line; line_read = read; judged_so = judged; unreported = unreported }

  -- memory ran out before there were settings
  pub ends_untold : NoReadFailed (link run.source) (link run.source_after) → EndsAtMostOnce (link run.source) (link run.source_after) → IsSilent link sink steps run → LineRanOut link sink steps run
  ends_untold unfailed ended silent = record { unfailed = unfailed; ended = ended; silent = silent }

  reported_end : (status : RehearsalStatus) → ConnectReported link sink steps status run → Ends link sink steps run (status_after status)
  reported_end rehearsal.Accepted r = r
  reported_end rehearsal.Refused r = r

  pub ends_reported : (x : Rehearsal) → Attempt steps x (link run.source) (link run.source_after) → Appends (sink run.sink).written (sink run.sink_after).written x.report.items → IsFlushed (sink run.sink_after)
      → NoWriteFailed (sink run.sink) (sink run.sink_after) → Ends link sink steps run (status_after x.status)
  ends_reported x a written flushed unfailed = reported_end x.status (record { rehearsal = x; status_is = refl; attempt = a; written = written; flushed = flushed; sink_unfailed = unfailed })

  -- an end on the line is an end of a run without words
  pub run_ends : (words : ℕ) (status : Status) → words ≡ 0 → Ends link sink steps run status → ConnectRunEnds link sink words steps run status
  run_ends words Usage is e = absurd e
  run_ends words status is e = record { none = is; ends = e }

  -- ---- what decides

  module _ (input : List ℕ) (told : TellsBytes (link run.source) input) (u : ConnectUnfailed link sink run) where
    reported_decides : (status : RehearsalStatus) → ConnectReported link sink steps status run → JudgementDecides (LineComesOut (after_line input)) (line_judged (line_of input)) (status_after status)
    reported_decides status r =
        let c = r.attempt.connected input told u.link_unfailed in
        decides_ok _ _ c.settings status c.settings_are
        (λ other out. sym r.status_is ∙ c.status_is ∙ one_status (with_replies c.settings (after_line input)) r.rehearsal.report.items c.report other out)

    judged_input : (error : SettingsError) → IsRefusedLine link sink error run → line_judged (line_of input) ≡ Err error
    judged_input error e = ap line_judged (sym (e.line_read.line_is input told.left)) ∙ e.judged_so

    settle : (result : Status) → Ends link sink steps run result → JudgementDecides (LineComesOut (after_line input)) (line_judged (line_of input)) result
    settle Done e = reported_decides rehearsal.Accepted e
    settle Refused e = reported_decides rehearsal.Refused e
    settle BadSettings e = decides_bad _ _ (judged_input Bad e)
    settle NotBuilt e = decides_unbuilt _ _ (judged_input Unbuilt e)
    settle NoMemory e = decides_memory _ _
    settle Usage e = absurd e
    settle SourceFault e = absurd (u.link_unfailed.reads e.rose)
    settle SinkFault e = absurd (u.writes e.rose)

  pub decided : (words : ℕ) (result : Status) → Ends link sink steps run result → ConnectDecided link sink words run result
  decided words result e none u input told = settle input told u result e
