use Rattle.std.proofs.Common.{◌≡◌, ℕ, List, ◌++◌, length}
use Rattle.std.specs.List.{AllByRecursion, concat}
use Rattle.mongo_settings.specs.Report.{CountsItself}
use Rattle.mongo_login.specs.Proxy.{frame_lines}
use Rattle.mongo_login.proofs.lines.push_frames.Given as goal

-- the lines of the frames that are left make it whole
abbrev pub invariant-frames : goal.invariant-frames
invariant-frames l = (frames : List (List ℕ)) → AllByRecursion CountsItself frames → l.fn.bytes ≡ concat frames →
    (later : List (List ℕ)) × AllByRecursion CountsItself later × (l.rest ≡ concat later) × (l.out.items ++ frame_lines l.name later ≡ l.fn.out.items ++ frame_lines l.name frames)

abbrev pub decreases-frames : goal.decreases-frames
decreases-frames l = length l.rest
