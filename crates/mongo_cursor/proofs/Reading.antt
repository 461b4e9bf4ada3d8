-- The calls of `advance` one after another: what they handed out, and how the reading of all documents ends.
use Rattle.std.proofs.Common.{◌≡◌, ◌≢◌, ◌+◌, ◌-◌, ◌<◌, ◌≤◌, ◌==◌, ℕ, ℤ, pos, Bool, true, false, if◌then◌else◌, Result, Ok, Err, List, [], ◌∷◌, ◌++◌, length, length-append, inl, inr, refl, sym, ap, subst, ◌∙◌, append-nil, append_assoc, arith}
use Rattle.std.specs.List.{flat_map, sum_by}
use Rattle.std.specs.Ordering.{int_eq}
use Rattle.std.proofs.lemmas.Bool.{false≢true}
use Rattle.std.proofs.lemmas.Bool.Decides.{Decides-eqb, Decides-int_eq}
use Rattle.std.proofs.lemmas.List.Concat.{flat_map-append}
use Rattle.std.proofs.lemmas.List.Sums.{sum_by-append}
use Rattle.mongo_wire.specs.Outside.{State}
use Rattle.mongo_wire.specs.declared.error.ErrorKind.TheVariants.{OutOfMemory}
use Rattle.mongo_command.specs.Connection.{KeepsRest}
use Rattle.mongo_command.specs.Exchange.{Point, CountsStay, frame_maximum}
use Rattle.mongo_command.specs.EndsExchange.{Footing}
use Rattle.mongo_command.proofs.Rest.{keeps_on, keeps_all}
use Rattle.mongo_command.proofs.Talked.{counts_on}
use Rattle.mongo_exec.specs.InsertMany.{at}
use Rattle.mongo_cursor.specs.Call.{maximum_at}
use Rattle.mongo_cursor.specs.Cursors.{held, last_id, namespace_of, has_failed, Taken, documents_in, id_after, AreTaken, IsWire, handed_out, TakesDue, Advances, EndsAdvance, empty_batch, IsDue, ReadsOn, Adds, EndsReadAll}
use Rattle.mongo_cursor.specs.declared.namespace.Namespace.{Namespace}
use Rattle.mongo_cursor.specs.declared.batch.Batch.{Batch}
use Rattle.mongo_cursor.specs.declared.cursor.Cursor.{Cursor}
use Rattle.mongo_cursor.specs.declared.cursor.Advance.{Advance}
use Rattle.mongo_cursor.specs.declared.cursor.Advance.TheVariants.{Document, Empty, End}
use Rattle.mongo_cursor.specs.declared.cursor_error.CursorError.{CursorError}
use Rattle.mongo_cursor.proofs.Advancing.{same_taken}

-- ---- replies one after another

taken_more : (maximum : ℤ) (namespace : Namespace) (id : ℤ) (ts us : List Taken) (old middle new : Point) → AreTaken maximum namespace id ts old middle → AreTaken maximum namespace (id_after id ts) us middle new → AreTaken maximum namespace id (ts ++ us) old new
taken_more maximum namespace id [] us old middle new is more = subst (λ p. AreTaken maximum namespace id us p new) is more
taken_more maximum namespace id (t ∷ ts) us old middle new is more = (is.0, (is.1.0, is.1.1, is.1.2, taken_more maximum namespace t.batch.id ts us is.1.0 middle new is.1.3 more))

id_more : (id : ℤ) (ts us : List Taken) → id_after id (ts ++ us) ≡ id_after (id_after id ts) us
id_more id [] us = refl
id_more id (t ∷ ts) us = id_more t.batch.id ts us

due_less : (ts : List Taken) (rest less : List (List ℕ)) → length less ≤ length rest → IsDue ts rest → IsDue ts less
due_less [] rest less few due = tt
due_less (t ∷ []) rest less few due = omega (arith, few, due)
due_less (t ∷ (u ∷ us)) rest less few due = due_less (u ∷ us) rest less few due

due_last : (ts : List Taken) (t : Taken) (rest : List (List ℕ)) → length rest ≤ length t.batch.documents - 1 → IsDue (ts ++ t ∷ []) rest
due_last [] t rest few = few
due_last (u ∷ []) t rest few = few
due_last (u ∷ (v ∷ us)) t rest few = due_last (v ∷ us) t rest few

nil_cons : (t : Taken) (ts : List Taken) → [] ≡ t ∷ ts → ⊥
nil_cons t ts is = cc

-- ---- the count of the calls

-- the calls that don't answer `End` are counted
abbrev pub step_of : Advance → ℕ
step_of (Document document) = 1
step_of Empty = 1
step_of End = 0

-- one call for an open batch
abbrev open_count : Bool → ℕ
open_count closed = if closed then 0 else 1

abbrev call_count : Bool → Bool → ℕ
call_count empty closed = if empty then open_count closed else 0

unless_empty : (empty : Bool) (n : ℕ) → (empty ≡ true → ⊥) → (if empty then n else 0) ≡ 0
unless_empty true n not = absurd (not refl)
unless_empty false n not = refl

empty_and_open : (empty closed : Bool) → empty ≡ true → (closed ≡ true → ⊥) → call_count empty closed ≡ 1
empty_and_open true true is not = absurd (not refl)
empty_and_open true false is not = refl
empty_and_open false closed is not = absurd (false≢true is)

closed_counts_nothing : (empty closed : Bool) → closed ≡ true → call_count empty closed ≡ 0
closed_counts_nothing true true is = refl
closed_counts_nothing true false is = absurd (false≢true is)
closed_counts_nothing false closed is = refl

with_document : (t : Taken) (d : List ℕ) (rest : List (List ℕ)) → t.batch.documents ≡ d ∷ rest → empty_batch t ≡ 0
with_document t d rest is = unless_empty (length t.batch.documents == 0) (if int_eq t.batch.id (pos 0) then 0 else 1) (λ empty. absurd (omega (arith, (Decides-eqb (length t.batch.documents) 0).0 empty, ap length is)))

without_document : (t : Taken) → t.batch.documents ≡ [] → t.batch.id ≢ pos 0 → empty_batch t ≡ 1
without_document t none open_yet = empty_and_open (length t.batch.documents == 0) (int_eq t.batch.id (pos 0)) ((Decides-eqb (length t.batch.documents) 0).1 (ap length none)) (λ closed. open_yet ((Decides-int_eq t.batch.id (pos 0)).0 closed))

with_closed : (t : Taken) → t.batch.id ≡ pos 0 → empty_batch t ≡ 0
with_closed t zero = closed_counts_nothing (length t.batch.documents == 0) (int_eq t.batch.id (pos 0)) ((Decides-int_eq t.batch.id (pos 0)).1 zero)

-- ---- one call more

module _ {L : Type 0} (state : L → State) (now next : Cursor) (middle new : Footing L) where
  -- the batch that was taken is handed out or held
  batch_joined : (t : Taken) (handed : List (List ℕ)) → held now ≡ [] → held now ++ documents_in (t ∷ []) ≡ handed ++ held next → t.batch.documents ≡ handed ++ held next
  batch_joined t handed none joined = sym (append-nil t.batch.documents) ∙ sym (ap (λ h. h ++ documents_in (t ∷ [])) none) ∙ joined

  counted_with : (advance : Advance) (taken : List Taken) → TakesDue state now taken middle new → held now ++ documents_in taken ≡ handed_out advance ++ held next → last_id next ≡ id_after (last_id now) taken
      → (advance ≡ End → (held now ++ documents_in taken ≡ []) × (last_id next ≡ pos 0))
      → (advance ≡ Empty → (t : Taken) × (taken ≡ t ∷ []) × (t.batch.documents ≡ []) × (t.batch.id ≢ pos 0))
      → step_of advance ≡ length (handed_out advance) + sum_by empty_batch taken
  counted_with (Document d) [] takes joined id end empty = refl
  counted_with Empty [] takes joined id end empty = let e = empty refl in absurd (nil_cons e.0 [] e.1)
  counted_with End [] takes joined id end empty = refl
  counted_with (Document d) (t ∷ []) takes joined id end empty = omega (arith, with_document t d (held next) (batch_joined t (d ∷ []) takes.0 joined))
  counted_with Empty (t ∷ []) takes joined id end empty =
      let e = empty refl in
      let same = same_taken t e.0 [] [] e.1 in
      omega (arith, without_document t (ap (λ (u : Taken). u.batch.documents) same ∙ e.2) (λ zero. e.3 (ap (λ (u : Taken). u.batch.id) (sym same) ∙ zero)))
  counted_with End (t ∷ []) takes joined id end empty = omega (arith, with_closed t (sym id ∙ (end refl).1))
  counted_with advance (t ∷ (u ∷ us)) takes joined id end empty = absurd takes

  few_of_batch : (advance : Advance) (t : Taken) → held now ≡ [] → held now ++ documents_in (t ∷ []) ≡ handed_out advance ++ held next
      → (advance ≡ End → held now ++ documents_in (t ∷ []) ≡ [])
      → (advance ≡ Empty → (u : Taken) × (t ∷ [] ≡ u ∷ []) × (u.batch.documents ≡ []) × (u.batch.id ≢ pos 0))
      → length (held next) ≤ length t.batch.documents - 1
  few_of_batch (Document d) t none joined end empty = omega (arith, ap length (batch_joined t (d ∷ []) none joined))
  few_of_batch Empty t none joined end empty =
      let e = empty refl in
      let bare : t.batch.documents ≡ [] = ap (λ (u : Taken). u.batch.documents) (same_taken t e.0 [] [] e.1) ∙ e.2 in
      omega (arith, ap length (batch_joined t [] none joined), ap length bare)
  few_of_batch End t none joined end empty = let rest : held next ≡ [] = sym joined ∙ end refl in omega (arith, ap length rest)

  due_with : (advance : Advance) (ts taken : List Taken) → TakesDue state now taken middle new → held now ++ documents_in taken ≡ handed_out advance ++ held next
      → (advance ≡ End → held now ++ documents_in taken ≡ [])
      → (advance ≡ Empty → (t : Taken) × (taken ≡ t ∷ []) × (t.batch.documents ≡ []) × (t.batch.id ≢ pos 0))
      → IsDue ts (held now) → IsDue (ts ++ taken) (held next)
  due_with advance ts [] takes joined end empty due =
      subst (λ l. IsDue l (held next)) (sym (append-nil ts))
      (due_less ts (held now) (held next) (omega (arith, ap length joined, ap length (append-nil (held now)), length-append (handed_out advance) (held next))) due)
  due_with advance ts (t ∷ []) takes joined end empty due = due_last ts t (held next) (few_of_batch advance t takes.0 joined end empty)
  due_with advance ts (t ∷ (u ∷ us)) takes joined end empty due = absurd takes

  asked_with : (taken : List Taken) → TakesDue state now taken middle new → AreTaken (maximum_at middle) (namespace_of now) (last_id now) taken (at state middle) (at state new)
  asked_with [] takes = ap (at state) takes.1
  asked_with (t ∷ []) takes = takes.1
  asked_with (t ∷ (u ∷ us)) takes = absurd takes

  pub reads_more : (before : Cursor) (old : Footing L) (advance : Advance) (documents : List (List ℕ)) (calls : ℕ) → ReadsOn (maximum_at old) before now documents calls (at state old) (at state middle) → KeepsRest old.connection middle.connection
      → Advances state advance now next middle new → ReadsOn (maximum_at old) before next (documents ++ handed_out advance) (calls + step_of advance) (at state old) (at state new)
  reads_more before old advance documents calls r keeps a =
      let asked = subst (λ i. AreTaken (maximum_at old) (namespace_of before) i a.taken (at state middle) (at state new)) r.id
      (subst (λ n. AreTaken (maximum_at old) n (last_id now) a.taken (at state middle) (at state new)) r.namespace
      (subst (λ m. AreTaken m (namespace_of now) (last_id now) a.taken (at state middle) (at state new)) (ap frame_maximum keeps.description) (asked_with a.taken a.takes))) in
      let first = documents_in r.taken in
      let last = documents_in a.taken in
      record {
        taken = r.taken ++ a.taken;
        asked = taken_more (maximum_at old) (namespace_of before) (last_id before) r.taken a.taken (at state old) (at state middle) (at state new) r.asked asked;
        joined = ap (λ d. held before ++ d) (flat_map-append (λ (t : Taken). t.batch.documents) r.taken a.taken) ∙ sym (append_assoc (held before) first last) ∙ ap (λ l. l ++ last) r.joined
            ∙ append_assoc documents (held now) last ∙ ap (λ l. documents ++ l) a.joined ∙ sym (append_assoc documents (handed_out advance) (held next));
        id = a.id ∙ ap (λ i. id_after i a.taken) r.id ∙ sym (id_more (last_id before) r.taken a.taken);
        due = due_with advance r.taken a.taken a.takes a.joined (λ is. (a.end.0 is).0) a.empty.0 r.due;
        counted = omega (arith, r.counted, counted_with advance a.taken a.takes a.joined a.id a.end.0 a.empty.0, sum_by-append empty_batch r.taken a.taken, length-append documents (handed_out advance));
        namespace = a.goes_on.namespace ∙ r.namespace;
      }

-- ---- all calls

-- so many calls didn't answer `End`, and the list has what they handed out
pub record Come {L : Type 0} (state : L → State) (before now : Cursor) (out_before out_now : List (List ℕ)) (calls : ℕ) (old middle : Footing L) : Type 0 where
  pub documents : List (List ℕ)
  pub adds : Adds documents out_before out_now
  pub reads : ReadsOn (maximum_at old) before now documents calls (at state old) (at state middle)
  pub failed : has_failed now ≡ has_failed before
  pub keeps : KeepsRest old.connection middle.connection
  pub counts : CountsStay (state old.link) (state middle.link)

module _ {L : Type 0} (state : L → State) (before : Cursor) (out_before : List (List ℕ)) (old : Footing L) where
  pub come_begun : Come state before before out_before out_before 0 old old
  come_begun = record {
    documents = [];
    adds = sym (append-nil out_before);
    reads = record { taken = []; asked = refl; joined = append-nil (held before); id = refl; due = tt; counted = refl; namespace = refl };
    failed = refl;
    keeps = keeps_all old.connection;
    counts = record { reads = omega arith; ends = omega arith; writes = omega arith; told = refl; told_written = refl; flushed = omega arith };
  }

  module _ (most calls : ℕ) (now next : Cursor) (out_now : List (List ℕ)) (middle new : Footing L) (come : Come state before now out_before out_now calls old middle) where
    -- a call that handed out a document, which was put at the end of the list, or none
    pub come_more : (advance : Advance) (out_next : List (List ℕ)) (more : ℕ) → more ≡ calls + step_of advance → EndsAdvance state (Ok advance) now next middle new → out_next ≡ out_now ++ handed_out advance → Come state before next out_before out_next more old new
    come_more advance out_next more is ends added =
        let a = ends.advanced in record {
          documents = come.documents ++ handed_out advance;
          adds = added ∙ ap (λ l. l ++ handed_out advance) come.adds ∙ append_assoc out_before come.documents (handed_out advance);
          reads = subst (λ n. ReadsOn (maximum_at old) before next (come.documents ++ handed_out advance) n (at state old) (at state new)) (sym is) (reads_more state now next middle new before old advance come.documents calls come.reads come.keeps a);
          failed = a.goes_on.after_unfailed ∙ sym a.goes_on.before_unfailed ∙ come.failed;
          keeps = keeps_on old.connection middle.connection new.connection come.keeps ends.rest;
          counts = counts_on (state old.link) (state middle.link) (state new.link) come.counts ends.counts;
        }

    pub come_to_end : calls < most → EndsAdvance state (Ok End) now next middle new → EndsReadAll state most (Ok true) before next out_before out_now old new
    come_to_end few ends =
        let a = ends.advanced in
        let e = a.end.0 refl in
        let more = come_more End out_now calls (omega arith) ends (sym (append-nil out_now)) in
        record {
          read = (more.documents, more.adds, (calls, few, more.reads, sym a.joined ∙ e.0, e.1), more.failed);
          refused = tt;
          rest = more.keeps;
          counts = more.counts;
        }

    pub come_refused : (error : CursorError) → calls < most → EndsAdvance state (Err error) now next middle new → EndsReadAll state most (Err error) before next out_before out_now old new
    come_refused error few ends = record {
      read = tt;
      refused = (come.documents, come.adds, inl (record { calls = calls; within = few; between = now; middle = middle; read = come.reads; refused = ends.refused.0; after_is = ends.refused.1 }));
      rest = keeps_on old.connection middle.connection new.connection come.keeps ends.rest;
      counts = counts_on (state old.link) (state middle.link) (state new.link) come.counts ends.counts;
    }

    pub come_lost : (document : List ℕ) (error : CursorError) → calls < most → EndsAdvance state (Ok (Document document)) now next middle new → IsWire (λ e. e.kind ≡ OutOfMemory) error → EndsReadAll state most (Err error) before next out_before out_now old new
    come_lost document error few ends memory =
        let a = ends.advanced in
        record {
          read = tt;
          refused = (
            come.documents,
            come.adds,
            inr (record {
              calls = calls + 1;
              within = omega (arith, few);
              lost = document;
              read = reads_more state now next middle new before old (Document document) come.documents calls come.reads come.keeps a;
              memory = memory;
              unfailed = a.goes_on.after_unfailed;
            }),
          );
          rest = keeps_on old.connection middle.connection new.connection come.keeps ends.rest;
          counts = counts_on (state old.link) (state middle.link) (state new.link) come.counts ends.counts;
        }

  pub come_all : (most : ℕ) (now : Cursor) (out_now : List (List ℕ)) (middle : Footing L) → Come state before now out_before out_now most old middle → EndsReadAll state most (Ok false) before now out_before out_now old middle
  come_all most now out_now middle come = record {
    read = (come.documents, come.adds, come.reads, come.failed);
    refused = tt;
    rest = come.keeps;
    counts = come.counts;
  }
