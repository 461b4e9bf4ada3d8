-- Frames that stand one after another are told apart by the lengths that they begin with.
use Rattle.std.proofs.Common.{◌≡◌, ℕ, ◌≤◌, None, Some, List, [], ◌∷◌, ◌++◌, length, take, drop, refl, sym, ap, ◌∙◌, subst, arith, append_assoc, length-append}
use Rattle.std.proofs.Math.Seq.{take-append_seam, drop-append_seam}
use Rattle.std.proofs.lemmas.Bool.Decides.{nat_tests}
use Rattle.std.specs.Int.{from_le_bytes, w32}
use Rattle.std.specs.List.{AllByRecursion, concat}
use Rattle.mongo_settings.specs.Report.{CountsItself, fitting_length, front_length, sent_line, sent_lines}

-- what follows four bytes doesn't change their number
from_le_bytes-front : (frame more : List ℕ) → 16 ≤ length frame → from_le_bytes w32 (frame ++ more) ≡ from_le_bytes w32 frame
from_le_bytes-front (a ∷ b ∷ c ∷ d ∷ rest) more long = refl
from_le_bytes-front short more long = absurd (omega arith)

fitting_length-fits : (room n : ℕ) → 16 ≤ n → n ≤ room → fitting_length room n ≡ Some n
fitting_length-fits room n header fits = grind (arith, nat_tests)

-- the length of the first frame is found
pub front_length-front : (frame more : List ℕ) → CountsItself frame → front_length (frame ++ more) ≡ Some (length frame)
front_length-front frame more counts =
    let number : from_le_bytes w32 (frame ++ more) ≡ length frame = from_le_bytes-front frame more counts.header ∙ counts.counted in
    let room : length frame ≤ length (frame ++ more) = omega (arith, length-append frame more) in
    ap (fitting_length (length (frame ++ more))) number ∙ fitting_length-fits _ _ counts.header room

-- no whole frame is left before bytes that begin with none exactly where none is found
pub no_frames : (later : List (List ℕ)) (tail : List ℕ) → AllByRecursion CountsItself later → front_length (concat later ++ tail) ≡ None → later ≡ []
no_frames [] tail each none = refl
no_frames (frame ∷ later) tail each none =
    let found = front_length-front frame (concat later ++ tail) each.0 in
    let split = append_assoc frame (concat later) tail in
    cc

-- the first frame, the frames after it
pub record Next (later : List (List ℕ)) (tail : List ℕ) (n : ℕ) : Type 0 where
  pub frame : List ℕ
  pub others : List (List ℕ)
  pub both : later ≡ frame ∷ others
  pub each : AllByRecursion CountsItself others
  pub front : take n (concat later ++ tail) ≡ frame
  pub back : drop n (concat later ++ tail) ≡ concat others ++ tail

pub next_frame : (later : List (List ℕ)) (tail : List ℕ) (n : ℕ) → AllByRecursion CountsItself later → front_length tail ≡ None → front_length (concat later ++ tail) ≡ Some n → Next later tail n
next_frame [] tail n each cut found = cc
next_frame (frame ∷ others) tail n each cut found =
    let more = concat others ++ tail in
    let split : (frame ++ concat others) ++ tail ≡ frame ++ more = append_assoc frame (concat others) tail in
    let here = front_length-front frame more each.0 in
    let is : length frame ≡ n = cc in
    record {
      frame = frame;
      others = others;
      both = refl;
      each = each.1;
      front = ap (take n) split ∙ subst (λ m. take m (frame ++ more) ≡ frame) is (take-append_seam frame more);
      back = ap (drop n) split ∙ subst (λ m. drop m (frame ++ more) ≡ more) is (drop-append_seam frame more);
    }

-- a frame's line and the lines of those after it are the lines of all
pub lines_after : (out new whole frame : List ℕ) (later others : List (List ℕ)) → new ≡ out ++ sent_line frame → later ≡ frame ∷ others → out ++ sent_lines later ≡ whole → new ++ sent_lines others ≡ whole
lines_after out new whole frame later others grown both lines =
    ap (λ l. l ++ sent_lines others) grown ∙ append_assoc out (sent_line frame) (sent_lines others) ∙ ap (λ l. out ++ sent_lines l) (sym both) ∙ lines
