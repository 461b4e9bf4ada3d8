-- Frames that stand one after another are told apart by the lengths that they begin with.
use Rattle.std.proofs.Common.{◌≡◌, ℕ, ◌≤◌, None, Some, List, [], ◌∷◌, ◌++◌, length, take, drop, refl, sym, ap, ◌∙◌, subst, arith, append_assoc, length-append}
use Rattle.std.proofs.Math.Seq.{take-append_seam, drop-append_seam}
use Rattle.std.proofs.lemmas.Bool.Decides.{nat_tests}
use Rattle.std.specs.Int.{from_le_bytes, w32}
use Rattle.std.specs.List.{AllByRecursion, concat}
use Rattle.mongo_settings.specs.Report.{CountsItself, fitting_length, front_length}
use Rattle.mongo_login.specs.Proxy.{frame_line, frame_lines}

-- what follows four bytes doesn't change their number
from_le_bytes-front : (frame more : List ℕ) → 16 ≤ length frame → from_le_bytes w32 (frame ++ more) ≡ from_le_bytes w32 frame
from_le_bytes-front (a ∷ b ∷ c ∷ d ∷ rest) more long = refl
from_le_bytes-front short more long = absurd (omega arith)

fitting_length-fits : (room n : ℕ) → 16 ≤ n → n ≤ room → fitting_length room n ≡ Some n
fitting_length-fits room n header fits = grind (arith, nat_tests)

-- the length of the first frame is found
front_length-front : (frame more : List ℕ) → CountsItself frame → front_length (frame ++ more) ≡ Some (length frame)
front_length-front frame more counts =
    let number : from_le_bytes w32 (frame ++ more) ≡ length frame = from_le_bytes-front frame more counts.header ∙ counts.counted in
    let room : length frame ≤ length (frame ++ more) = omega (arith, length-append frame more) in
    ap (fitting_length (length (frame ++ more))) number ∙ fitting_length-fits _ _ counts.header room

-- none is left exactly where none is found
pub no_frames : (later : List (List ℕ)) → AllByRecursion CountsItself later → front_length (concat later) ≡ None → later ≡ []
no_frames [] each none = refl
no_frames (frame ∷ later) each none =
    let found = front_length-front frame (concat later) each.0 in
    cc

-- the first frame, the frames after it
pub record Next (later : List (List ℕ)) (n : ℕ) : Type 0 where
  pub frame : List ℕ
  pub others : List (List ℕ)
  pub both : later ≡ frame ∷ others
  pub each : AllByRecursion CountsItself others
  pub front : take n (concat later) ≡ frame
  pub back : drop n (concat later) ≡ concat others

pub next_frame : (later : List (List ℕ)) (n : ℕ) → AllByRecursion CountsItself later → front_length (concat later) ≡ Some n → Next later n
next_frame [] n each found = cc
next_frame (frame ∷ others) n each found =
    let more = concat others in
    let here = front_length-front frame more each.0 in
    let is : length frame ≡ n = cc in
    record {
      frame = frame;
      others = others;
      both = refl;
      each = each.1;
      front = subst (λ m. take m (frame ++ more) ≡ frame) is (take-append_seam frame more);
      back = subst (λ m. drop m (frame ++ more) ≡ more) is (drop-append_seam frame more);
    }

-- a frame's line and the lines of those after it are the lines of all
pub lines_after : (name out new whole frame : List ℕ) (later others : List (List ℕ)) → new ≡ out ++ frame_line name frame → later ≡ frame ∷ others → out ++ frame_lines name later ≡ whole → new ++ frame_lines name others ≡ whole
lines_after name out new whole frame later others grown both lines =
    ap (λ l. l ++ frame_lines name others) grown ∙ append_assoc out (frame_line name frame) (frame_lines name others) ∙ ap (λ l. out ++ frame_lines name l) (sym both) ∙ lines
