-- How an advance that takes a batch ends, and how a close ends.
use Rattle.std.proofs.Common.{◌≡◌, ◌≢◌, ◌<◌, ℕ, ℤ, pos, true, false, Option, None, is_some, Result, Ok, Err, List, [], ◌∷◌, ◌++◌, length, refl, sym, ap, subst, ◌∙◌, append-nil, arith}
use Rattle.std.proofs.lemmas.Bool.{false≢true}
use Rattle.mongo_wire.specs.Outside.{State}
use Rattle.mongo_wire.specs.declared.error.Error.{Error}
use Rattle.mongo_command.specs.CommandReply.{IsCommandBody, CommandRefused}
use Rattle.mongo_command.specs.EndsExchange.{Footing}
use Rattle.mongo_exec.specs.InsertMany.{at}
use Rattle.mongo_cursor.specs.Batch.{next_batch, IsBatch, BatchRefused}
use Rattle.mongo_cursor.specs.Commands.{get_more_command, kill_cursors_command}
use Rattle.mongo_cursor.specs.Call.{EndsCall}
use Rattle.mongo_cursor.specs.Cursors.{held, last_id, namespace_of, has_failed, Taken, documents_in, EndsAdvance, EndsClose}
use Rattle.mongo_cursor.specs.Course.{BeginsBatch}
use Rattle.mongo_cursor.specs.declared.batch.Batch.{Batch}
use Rattle.mongo_cursor.specs.declared.cursor.Cursor.{Cursor}
use Rattle.mongo_cursor.specs.declared.cursor.Advance.{Advance}
use Rattle.mongo_cursor.specs.declared.cursor_error.CursorError.TheVariants.{Wire}

-- where no first document is taken there is none
pub nothing_held : (documents : List (List ℕ)) → (0 < length documents → false ≡ true) → documents ≡ []
nothing_held [] none = refl
nothing_held (d ∷ ds) none = absurd (false≢true (none (omega arith)))

pub same_taken : (t u : Taken) (ts us : List Taken) → t ∷ ts ≡ u ∷ us → t ≡ u
same_taken t u ts us is = cc

module _ {L : Type 0} (state : L → State) (before : Cursor) (rest : List (List ℕ)) (old new : Footing L) (unfailed : has_failed before ≡ false) (none : held before ≡ []) (open_yet : last_id before ≢ pos 0) where
  pub advance_taken : (batch : Batch) (advance : Advance) (after : Cursor)
      → EndsCall state (get_more_command (namespace_of before) (last_id before)) (IsBatch next_batch) (BatchRefused next_batch) (Ok batch) old new
      → BeginsBatch batch advance (record before { held = rest }) after
      → EndsAdvance state (Ok advance) before after old new
  advance_taken batch advance after ends begins =
      let t : Taken = record { reply = ends.read.0; batch = batch } in
      let whole : held before ++ documents_in (t ∷ []) ≡ batch.documents = ap (λ h. h ++ documents_in (t ∷ [])) none ∙ append-nil batch.documents in
      let id : last_id after ≡ batch.id = ap last_id begins.after_is in
      record {
        advanced = record {
          goes_on = record { before_unfailed = unfailed; after_unfailed = ap has_failed begins.after_is ∙ unfailed; namespace = ap namespace_of begins.after_is };
          taken = t ∷ [];
          takes = (none, (open_yet, (at state new, ends.read.1, ends.read.2, refl)), ends.faultless.0, ends.faultless.1);
          joined = whole ∙ begins.joined;
          id = id;
          end = (λ is. (let e = begins.end.0 is in (whole ∙ e.0, id ∙ e.1)), λ e. begins.end.1 (sym whole ∙ e.0, sym id ∙ e.1));
          empty = (
            λ is. (let e = begins.empty.0 is in (t, refl, e.0, e.1)),
            λ e. begins.empty.1 (let same = same_taken t e.0 [] [] e.1 in (ap (λ (u : Taken). u.batch.documents) same ∙ e.2, λ zero. e.3 (ap (λ (u : Taken). u.batch.id) (sym same) ∙ zero))),
          );
        };
        refused = tt;
        rest = ends.rest;
        counts = ends.counts;
      }

  pub advance_refused : (e : Error) → held before ≡ rest
      → EndsCall {T = Batch} state (get_more_command (namespace_of before) (last_id before)) (IsBatch next_batch) (BatchRefused next_batch) (Err e) old new
      → EndsAdvance state (Err (Wire e)) before (record before { held = rest; failed = true }) old new
  advance_refused e same ends = record {
    advanced = tt;
    refused = ((unfailed, none, open_yet, ends.refused), ap (λ (h : List (List ℕ)). record before { held = h; failed = true }) (sym same));
    rest = ends.rest;
    counts = ends.counts;
  }

module _ {L : Type 0} (state : L → State) (cursor : Cursor) (old new : Footing L) (open_yet : last_id cursor ≢ pos 0) where
  pub close_done : EndsCall {T = Unit {0}} state (kill_cursors_command (namespace_of cursor) (last_id cursor)) (λ reply _. IsCommandBody reply) CommandRefused (Ok tt) old new → EndsClose state cursor (Ok tt) old new
  close_done ends = record {
    closed = λ zero. absurd (open_yet zero);
    killed = λ _. (record { reply = ends.read.0; exchanged = ends.read.1; body = ends.read.2 }, ends.faultless.0, ends.faultless.1);
    refused = tt;
    rest = ends.rest;
    counts = ends.counts;
  }

  pub close_refused : (e : Error) → EndsCall {T = Unit {0}} state (kill_cursors_command (namespace_of cursor) (last_id cursor)) (λ reply _. IsCommandBody reply) CommandRefused (Err e) old new → EndsClose state cursor (Err (Wire e)) old new
  close_refused e ends = record {
    closed = λ zero. absurd (open_yet zero);
    killed = λ _. tt;
    refused = ends.refused;
    rest = ends.rest;
    counts = ends.counts;
  }
