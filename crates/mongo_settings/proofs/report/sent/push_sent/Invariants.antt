use Rattle.std.proofs.Common.{◌≡◌, ℕ, None, List, ◌++◌, length}
use Rattle.std.specs.List.{AllByRecursion, concat}
use Rattle.mongo_settings.specs.Report.{CountsItself, front_length, sent_lines}
use Rattle.mongo_settings.proofs.report.sent.push_sent.Given as goal

-- the lines of the frames that are left make it whole
abbrev pub invariant-frames : goal.invariant-frames
invariant-frames l = (frames : List (List ℕ)) (tail : List ℕ) → AllByRecursion CountsItself frames → front_length tail ≡ None → l.fn.written ≡ concat frames ++ tail →
    (later : List (List ℕ)) × AllByRecursion CountsItself later × (l.rest ≡ concat later ++ tail) × (l.out.items ++ sent_lines later ≡ l.fn.out.items ++ sent_lines frames)

abbrev pub decreases-frames : goal.decreases-frames
decreases-frames l = length l.rest
