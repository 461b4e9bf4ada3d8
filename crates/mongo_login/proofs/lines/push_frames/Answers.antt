use Rattle.std.proofs.Common.{◌++◌, take, drop, sym, ap, ◌∙◌, append-nil}
use Rattle.mongo_settings.specs.Report.{front_length}
use Rattle.mongo_login.specs.Proxy.{frame_line, frame_lines}
use Rattle.mongo_login.proofs.FrameLines.{no_frames, next_frame, lines_after}
use Rattle.mongo_login.proofs.lines.push_frames.Goals as goal

pub frames-preserved : goal.frames-preserved
frames-preserved c = λ frames each joined.
    let name = c.args.name.now in
    let (later, each_later, rest, whole) = c.frames.invariant frames each joined in
    let n = c.in-Some.length in
    let next = next_frame later n each_later (ap front_length (sym rest) ∙ sym c.front_length.ensures ∙ c.in-Some.is) in
    let frame = c.split_at.ensures.front ∙ ap (take n) rest ∙ next.front in
    let grown = c.in_ok-push_frame.ensures ∙ ap (λ f. c.frames.out.items ++ frame_line name f) frame in
    (next.others, next.each, c.split_at.ensures.back ∙ ap (drop n) rest ∙ next.back, lines_after name _ _ _ next.frame later next.others grown next.both whole)

pub returns : goal.returns
returns c = λ frames each joined.
    let (later, each_later, rest, whole) = c.frames.invariant frames each joined in
    let none = no_frames later each_later (ap front_length (sym rest) ∙ sym c.front_length.ensures ∙ c.in_default.is) in
    let out = c.frames.out.items in
    sym (append-nil out) ∙ ap (λ l. out ++ frame_lines c.args.name.now l) (sym none) ∙ whole
