use Rattle.std.proofs.Common.{◌++◌, take, drop, sym, ap, ◌∙◌, append-nil}
use Rattle.mongo_settings.specs.Report.{front_length, sent_line, sent_lines}
use Rattle.mongo_settings.proofs.Frames.{no_frames, next_frame, lines_after}
use Rattle.mongo_settings.proofs.report.sent.push_sent.Goals as goal

pub frames-preserved : goal.frames-preserved
frames-preserved c = λ frames tail each cut joined.
    let (later, each_later, rest, whole) = c.frames.invariant frames tail each cut joined in
    let n = c.in-Some.length in
    let next = next_frame later tail n each_later cut (ap front_length (sym rest) ∙ sym c.front_length.ensures ∙ c.in-Some.is) in
    let frame = c.split_at.ensures.front ∙ ap (take n) rest ∙ next.front in
    let grown = c.in_ok-push_frame.ensures ∙ ap (λ f. c.frames.out.items ++ sent_line f) frame in
    (next.others, next.each, c.split_at.ensures.back ∙ ap (drop n) rest ∙ next.back, lines_after _ _ _ next.frame later next.others grown next.both whole)

pub returns : goal.returns
returns c = λ frames tail each cut joined.
    let (later, each_later, rest, whole) = c.frames.invariant frames tail each cut joined in
    let none = no_frames later tail each_later (ap front_length (sym rest) ∙ sym c.front_length.ensures ∙ c.in_default.is) in
    let out = c.frames.out.items in
    sym (append-nil out) ∙ ap (λ l. out ++ sent_lines l) (sym none) ∙ whole
