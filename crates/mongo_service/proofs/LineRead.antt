-- What was taken of a source while its first line is read, byte by byte.
use Rattle.std.proofs.Common.{◌≡◌, ◌≢◌, ℕ, ◌+◌, ◌≤◌, Option, None, Some, Result, Err, List, [], ◌∷◌, ◌++◌, length, IfSome, IfOk, IsErrOf, ap, sym, subst, ◌∙◌, inr, arith, append-nil, length-append}
use Rattle.std.proofs.KnownBytes.{Consumes-trans}
use Rattle.std.proofs.lemmas.List.Elements.{All-push}
use Rattle.std.specs.Result.{IsErrAnd}
use Rattle.std.specs.Io.KnownBytes.{Consumes}
use Rattle.mongo_wire.proofs.ReadStopped.{stops_after, reads_on, unstopped_on}
use Rattle.mongo_wire.proofs.Written.{error_passed_on}
use Rattle.mongo_wire.specs.Outside.{State, ReadsOn, Unstopped, FailsToRead, MeetsEnd, RanOut, ConsumesAtMost, risen}
use Rattle.mongo_wire.specs.declared.error.ErrorKind.TheVariants.{EndOfInput}
use Rattle.mongo_service.specs.Line.{maximum_line_length, HasNoLineFeed, TakesLine, HasNoLine, StopsWithin, LineFails, LineRunsOut}

-- what ran out after bytes without a line feed had none at all
unended_whole : (old mid new : Option (List ℕ)) (line : List ℕ) → Consumes old mid line → HasNoLineFeed line → RanOut mid new 1 → IfSome old HasNoLineFeed
unended_whole None mid new line front unended out = tt
unended_whole (Some bytes) None new line front unended out = absurd front
unended_whole (Some bytes) (Some []) new line front unended out = subst HasNoLineFeed (sym (front ∙ append-nil line)) unended
unended_whole (Some bytes) (Some (byte ∷ rest)) new line front unended out = absurd (omega (arith, out.0))

-- the line so far is what the source gave so far, and has no line feed
pub record LineSoFar (old new : State) (line : List ℕ) : Type 0 where
  pub within : length line ≤ maximum_line_length + 1
  pub unended : HasNoLineFeed line
  pub front : Consumes old.left new.left line
  pub still : Unstopped old new
  pub on : ReadsOn old new

module _ (old mid new : State) (line : List ℕ) (so_far : LineSoFar old mid line) (short : length line ≤ maximum_line_length) where
  -- the next byte is a line feed
  pub takes_line : (byte : ℕ) → byte ≡ 10 → Consumes mid.left new.left (byte ∷ []) → Unstopped mid new → TakesLine old new line
  takes_line byte is taken still = record {
    taken = Consumes-trans old.left mid.left new.left line (10 ∷ []) so_far.front (subst (λ b. Consumes mid.left new.left (b ∷ [])) is taken);
    unstopped = unstopped_on old mid new so_far.still still;
    first = so_far.unended;
    short = short;
  }

  -- the next byte is another
  pub one_more : (byte : ℕ) (longer : List ℕ) → byte ≢ 10 → longer ≡ line ++ byte ∷ [] → Consumes mid.left new.left (byte ∷ []) → Unstopped mid new → ReadsOn mid new → LineSoFar old new longer
  one_more byte longer other is taken still on = subst (LineSoFar old new) (sym is) (record {
    within = omega (arith, short, length-append line (byte ∷ []));
    unended = All-push (λ b. b ≢ 10) line byte so_far.unended other;
    front = Consumes-trans old.left mid.left new.left line (byte ∷ []) so_far.front taken;
    still = unstopped_on old mid new so_far.still still;
    on = reads_on old mid new so_far.on on;
  })

  -- there is none
  pub has_no_line : MeetsEnd mid new × RanOut mid.left new.left 1 → HasNoLine old new
  has_no_line ended =
      let most : length line + 1 ≤ maximum_line_length + 1 = omega (arith, short) in
      let all = stops_after EndOfInput old mid new line 1 (maximum_line_length + 1) so_far.front so_far.still most ended in
      inr (record { met = all.0; ran_out = all.1; unended = unended_whole old.left mid.left new.left line so_far.front so_far.unended ended.1 })

  -- reading stopped at it
  stops_within : ConsumesAtMost mid.left new.left 1 → StopsWithin old new
  stops_within last = record {
    front = line;
    last = last.0;
    taken = Consumes-trans old.left mid.left new.left line last.0 so_far.front last.2;
    unended = so_far.unended;
    short = short;
    one = last.1;
  }

  -- since the read of it failed
  pub line_fails : FailsToRead mid new → ConsumesAtMost mid.left new.left 1 → LineFails old new
  line_fails failed last = (record { reads = failed.reads ∙ ap risen so_far.still.reads; ends = failed.ends ∙ so_far.still.ends }, stops_within last)

  -- or memory ran out for it
  pub line_runs_out : Unstopped mid new → ConsumesAtMost mid.left new.left 1 → LineRunsOut old new
  line_runs_out still last = (unstopped_on old mid new so_far.still still, stops_within last)

-- memory ran out for what the line says
pub line_taken_runs_out : (old new : State) (line : List ℕ) → TakesLine old new line → LineRunsOut old new
line_taken_runs_out old new line t =
    let last : List ℕ = 10 ∷ [] in
    let one : length last ≤ 1 = omega arith in
    (t.unstopped, record { front = line; last = last; taken = t.taken; unended = t.first; short = t.short; one = one })

-- ---- what is answered

-- the error of a `?` is handed on
pub same_error : {T U E : Type 0} (r : Result T E) (x why : E) → IsErrAnd r (λ y. y ≡ x) → IsErrOf r why → ◌≡◌ {A = Result U E} (Err x) (Err why)
same_error r x why same is = let passed = error_passed_on r x same in cc

-- so nothing is said of a value
pub no_ok_behind : {T E : Type 0} (P : T → Type 0) (r : Result T E) (x : E) → IsErrAnd r (λ y. y ≡ x) → IfOk r P
no_ok_behind P r x same = subst (λ r. IfOk r P) (sym (error_passed_on r x same)) tt
