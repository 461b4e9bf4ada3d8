-- How far an insert has come, batch after batch, and how it ends.
use Rattle.std.proofs.Common.{◌≡◌, ℕ, ◌+◌, ◌<◌, ◌≤◌, pos, ◌≤ℤ◌, Bool, true, false, ◌==◌, None, Ok, Err, List, [], ◌∷◌, ◌++◌, length, length-append, take, drop, map, refl, ap, sym, subst, ◌∙◌, append-nil, append_assoc, take-append-drop, flat_map, option_to_list, arith}
use Rattle.std.specs.List.{All, AllByRecursion, sum_by}
use Rattle.std.proofs.lemmas.Bool.{false≢true}
use Rattle.std.proofs.lemmas.List.{nil_from_length}
use Rattle.std.proofs.lemmas.Bool.Decides.{Decides-eqb}
use Rattle.std.proofs.lemmas.Int.{ints}
use Rattle.std.proofs.lemmas.List.{length-take}
use Rattle.std.proofs.lemmas.List.Concat.{flat_map-append}
use Rattle.std.proofs.lemmas.List.Sums.{sum_by-append}
use Rattle.std.proofs.lemmas.List.Elements.{recursion_from_All, All-from_recursion, All-push}
use Rattle.mongo_wire.specs.Outside.{State}
use Rattle.mongo_wire.specs.Measure.{documents_bytes}
use Rattle.mongo_wire.specs.declared.error.Error.{Error}
use Rattle.mongo_wire.specs.declared.write_error.IndexedWriteError.{IndexedWriteError}
use Rattle.mongo_wire.specs.declared.write_error.WriteConcernError.{WriteConcernError}
use Rattle.mongo_command.specs.Connection.{kept_fault}
use Rattle.mongo_command.specs.Exchange.{Exchanges, Point}
use Rattle.mongo_command.specs.EndsExchange.{Footing}
use Rattle.mongo_command.specs.declared.stream_description.StreamDescription.{StreamDescription}
use Rattle.mongo_command.proofs.Rest.{keeps_on}
use Rattle.mongo_command.proofs.Talked.{counts_on}
use Rattle.mongo_exec.specs.Insert.{Insert, insert_message, insert_size}
use Rattle.mongo_exec.specs.Cut.{IsFirstBatch, IsCutTo}
use Rattle.mongo_exec.specs.Reply.{errors_in}
use Rattle.mongo_exec.specs.Outcome.{Answered, outcome_of, errors_from, shifted, Stops, GoesTo}
use Rattle.mongo_exec.specs.Batches.{AreExchanged, IsAnswered}
use Rattle.mongo_exec.specs.InsertMany.{IsAccepted, at}
use Rattle.mongo_exec.specs.Told.{told_errors, told_concern, Tells, with_told, IsBehind}
use Rattle.mongo_exec.specs.Plan.{IsPlan}
use Rattle.mongo_exec.specs.Course.{EndsBatch, Come, EndsBatches, many_in}
use Rattle.mongo_exec.specs.declared.insert_reply.BatchReply.{BatchReply}
use Rattle.mongo_exec.specs.declared.insert_outcome.InsertOutcome.{InsertOutcome}
use Rattle.mongo_exec.specs.declared.exec_error.ExecError.TheVariants.{Wire}
use Rattle.mongo_exec.specs.declared.plan.Plan.{Plan}
use Rattle.mongo_exec.specs.declared.tally.Tally.{Tally}
use Rattle.mongo_exec.proofs.Sizes.{insert_size-more}

-- ---- one batch more

cut_more : (d : StreamDescription) (insert : Insert) (documents : List (List ℕ)) (answered : List Answered) (rest more : List (List ℕ)) (a : Answered) → IsCutTo d insert documents (map (λ x. x.batch) answered) rest → IsFirstBatch d insert rest a.batch more → IsCutTo d insert documents (map (λ x. x.batch) (answered ++ a ∷ [])) more
cut_more d insert documents [] rest more a cut first = (more, subst (λ l. IsFirstBatch d insert l a.batch more) (sym cut) first, refl)
cut_more d insert documents (x ∷ answered) rest more a cut first = (cut.0, cut.1, cut_more d insert cut.0 answered rest more a cut.2 first)

exchanged_more : (d : StreamDescription) (insert : Insert) (answered : List Answered) (a : Answered) (old middle new : Point) → AreExchanged d insert answered old middle → Exchanges d.max_message_size_bytes (insert_message insert a.batch) middle new a.reply → AreExchanged d insert (answered ++ a ∷ []) old new
exchanged_more d insert [] a old middle new said e = (new, subst (λ p. Exchanges d.max_message_size_bytes (insert_message insert a.batch) p new a.reply) said e, refl)
exchanged_more d insert (x ∷ answered) a old middle new said e = (said.0, said.1, exchanged_more d insert answered a said.0 middle new said.2 e)

sum_more : (f : Answered → ℕ) (answered : List Answered) (a : Answered) → sum_by f (answered ++ a ∷ []) ≡ sum_by f answered + f a
sum_more f answered a = omega (arith, sum_by-append f answered (a ∷ []))

errors_more : (place : ℕ) (answered : List Answered) (a : Answered) → errors_from place (answered ++ a ∷ []) ≡ errors_from place answered ++ map (shifted (place + many_in answered)) (errors_in a.said)
errors_more place [] a =
    let same : place + 0 ≡ place = omega arith in
    append-nil (map (shifted place) (errors_in a.said)) ∙ ap (λ p. map (shifted p) (errors_in a.said)) (sym same)
errors_more place (x ∷ answered) a =
    let front = map (shifted place) (errors_in x.said) in
    let next = place + length x.batch in
    let same : next + many_in answered ≡ place + many_in (x ∷ answered) = omega (arith, sum_by-append (λ (a : Answered). length a.batch) (x ∷ []) answered) in
    ap (λ l. front ++ l) (errors_more next answered a ∙ ap (λ p. errors_from next answered ++ map (shifted p) (errors_in a.said)) same)
    ∙ sym (append_assoc front (errors_from next answered) (map (shifted (place + many_in (x ∷ answered))) (errors_in a.said)))

abbrev outcome_with : ℕ → List IndexedWriteError → List WriteConcernError → ℕ → InsertOutcome
outcome_with inserted errors concerns batches = record { inserted = inserted; write_errors = errors; write_concern_errors = concerns; batches = batches }

same_outcome : (n m : ℕ) (errors others : List IndexedWriteError) (concerns rest : List WriteConcernError) (batches many : ℕ) → n ≡ m → errors ≡ others → concerns ≡ rest → batches ≡ many → outcome_with n errors concerns batches ≡ outcome_with m others rest many
same_outcome n m errors others concerns rest batches many p q r s =
    ap (λ x. outcome_with x errors concerns batches) p ∙ ap (λ x. outcome_with m x concerns batches) q ∙ ap (λ x. outcome_with m others x batches) r ∙ ap (λ x. outcome_with m others rest x) s

outcome_more : (answered : List Answered) (a : Answered) (place : ℕ) (told : BatchReply) → place ≡ many_in answered → Tells told a.said → with_told place told (outcome_of answered) ≡ outcome_of (answered ++ a ∷ [])
outcome_more answered a place told is tells =
    let count : Answered → ℕ = λ x. x.said.count in
    let concern : Answered → List WriteConcernError = λ x. option_to_list x.said.refused.write_concern_error in
    let front = errors_from 0 answered in
    let shift : place ≡ 0 + many_in answered = omega (arith, is) in
    same_outcome (sum_by count answered + told.count) (sum_by count (answered ++ a ∷ []))
    (front ++ map (shifted place) (told_errors told)) (errors_from 0 (answered ++ a ∷ []))
    (flat_map concern answered ++ option_to_list (told_concern told)) (flat_map concern (answered ++ a ∷ []))
    (length answered + 1) (length (answered ++ a ∷ []))
    (omega (arith, sum_more count answered a, tells.count))
    (ap (λ l. front ++ map (shifted place) l) tells.errors ∙ ap (λ p. front ++ map (shifted p) (errors_in a.said)) shift ∙ sym (errors_more 0 answered a))
    (ap (λ o. flat_map concern answered ++ option_to_list o) tells.concern ∙ ap (λ l. flat_map concern answered ++ l) (sym (append-nil (concern a))) ∙ sym (flat_map-append concern answered (a ∷ [])))
    (omega (arith, length-append answered (a ∷ [])))

-- ---- the end of the list

goes_all : (ordered : Bool) (answered : List Answered) → AllByRecursion (λ a. Stops ordered a → ⊥) answered → GoesTo ordered answered []
goes_all ordered [] all = refl
goes_all ordered (a ∷ []) all = λ _. refl
goes_all ordered (a ∷ (b ∷ answered)) all = (all.0, goes_all ordered (b ∷ answered) all.1)

goes_stopped : (ordered : Bool) (answered : List Answered) (a : Answered) (rest : List (List ℕ)) → AllByRecursion (λ x. Stops ordered x → ⊥) answered → Stops ordered a → GoesTo ordered (answered ++ a ∷ []) rest
goes_stopped ordered [] a rest all stops = λ not. absurd (not stops)
goes_stopped ordered (x ∷ []) a rest all stops = (all.0, λ not. absurd (not stops))
goes_stopped ordered (x ∷ (y ∷ answered)) a rest all stops = (all.0, goes_stopped ordered (y ∷ answered) a rest all.1 stops)

-- ---- the next batch

all_later : {X : Type 0} (P : X → Type 0) (xs ys : List X) → AllByRecursion P (xs ++ ys) → AllByRecursion P ys
all_later P [] ys all = all
all_later P (x ∷ xs) ys all = all_later P xs ys all.1

pub first_batch : (d : StreamDescription) (insert : Insert) (documents : List (List ℕ)) (plan : Plan) (rest : List (List ℕ)) (n : ℕ) → IsPlan d insert documents plan → n ≤ length rest → n ≤ plan.most → length (documents_bytes (take n rest)) ≤ plan.room
    → ((m : ℕ) → m ≤ length rest → m ≤ plan.most → length (documents_bytes (take m rest)) ≤ plan.room → m ≤ n) → IsFirstBatch d insert rest (take n rest) (drop n rest)
first_batch d insert documents plan rest n is within few short greatest =
    let many : length (take n rest) ≡ n = omega (arith, length-take n rest, within) in record {
      joined = sym (take-append-drop n rest);
      taken = record {
        few = subst (λ m. pos (length (take n rest)) ≤ℤ m) is.most (omega (arith, ints, many, few));
        short = subst (λ m. pos (insert_size insert (take n rest)) ≤ℤ m) is.room (omega (arith, ints, insert_size-more insert (take n rest), short));
      };
      greatest = λ m inside taken.
          (let count : length (take m rest) ≡ m = omega (arith, length-take m rest, inside) in
          let few_m : pos (length (take m rest)) ≤ℤ pos plan.most = subst (λ x. pos (length (take m rest)) ≤ℤ x) (sym is.most) taken.few in
          let short_m : pos (insert_size insert (take m rest)) ≤ℤ pos (insert_size insert [] + plan.room) = subst (λ x. pos (insert_size insert (take m rest)) ≤ℤ x) (sym is.room) taken.short in
          let most = greatest m inside (omega (arith, ints, few_m, count)) (omega (arith, ints, short_m, insert_size-more insert (take m rest))) in
          omega (arith, most, many));
    }

pub first_split : (d : StreamDescription) (insert : Insert) (documents : List (List ℕ)) (plan : Plan) (rest : List (List ℕ)) (n : ℕ) (batch more : List (List ℕ)) → IsPlan d insert documents plan → n ≤ length rest → n ≤ plan.most → length (documents_bytes (take n rest)) ≤ plan.room
    → ((m : ℕ) → m ≤ length rest → m ≤ plan.most → length (documents_bytes (take m rest)) ≤ plan.room → m ≤ n) → batch ≡ take n rest → more ≡ drop n rest → IsFirstBatch d insert rest batch more
first_split d insert documents plan rest n batch more is within few short greatest front back =
    subst (λ b. IsFirstBatch d insert rest b more) (sym front) (subst (IsFirstBatch d insert rest (take n rest)) (sym back) (first_batch d insert documents plan rest n is within few short greatest))

-- it isn't empty
pub some_taken : (d : StreamDescription) (insert : Insert) (documents : List (List ℕ)) (plan : Plan) (rest : List (List ℕ)) (n : ℕ) → IsPlan d insert documents plan → 0 < length rest → All (IsAccepted d insert) rest
    → ((m : ℕ) → m ≤ length rest → m ≤ plan.most → length (documents_bytes (take m rest)) ≤ plan.room → m ≤ n) → 0 < n
some_taken d insert documents plan [] n is some all greatest = absurd (omega (arith, some))
some_taken d insert documents plan (document ∷ rest) n is some all greatest =
    let one = all 0 document some in
    let size : pos (insert_size insert (document ∷ [])) ≤ℤ pos (insert_size insert [] + plan.room) = subst (λ x. pos (insert_size insert (document ∷ [])) ≤ℤ x) (sym is.room) one.alone in
    let most : pos 1 ≤ℤ pos plan.most = subst (λ x. pos 1 ≤ℤ x) (sym is.most) is.sendable.room.command.batches.size in
    let least = greatest 1 (omega (arith, some)) (omega (arith, ints, most)) (omega (arith, ints, size, insert_size-more insert (document ∷ []))) in
    omega (arith, least)

pub some_left : {X : Type 0} (xs : List X) → false ≡ (length xs == 0) → 0 < length xs
some_left [] e = absurd (false≢true e)
some_left (x ∷ xs) e = omega arith

pub none_left : {X : Type 0} (xs : List X) → true ≡ (length xs == 0) → xs ≡ []
none_left xs e = nil_from_length xs ((Decides-eqb (length xs) 0).0 (sym e))

-- ---- the loop

module _ {L : Type 0} (state : L → State) (d : StreamDescription) (insert : Insert) (documents : List (List ℕ)) (old : Footing L) where
  pub come_begun : (plan : Plan) (tally : Tally) → IsPlan d insert documents plan → kept_fault old.connection ≡ None → tally.outcome ≡ outcome_of [] → IsBehind tally → Come state d insert documents [] documents 0 tally old old
  come_begun plan tally is unkept outcome behind = record {
    sent = record { cut = refl; exchanged = refl; replies = All-from_recursion IsAnswered [] tt };
    on = All-from_recursion (λ a. Stops insert.ordered a → ⊥) [] tt;
    outcome = outcome;
    behind = behind;
    accepted = is.sendable.each;
    place_is = refl;
    left = omega arith;
    inserted = omega (arith, ap (λ (o : InsertOutcome). o.inserted) outcome);
    batches = omega (arith, ap (λ (o : InsertOutcome). o.batches) outcome);
    unkept = unkept;
    keeps = record { address = refl; id = refl; description = refl; server_id = refl; token = refl };
    counts = record { reads = omega arith; ends = omega arith; writes = omega arith; told = refl; told_written = refl; flushed = omega arith };
  }

  pub come_more : (answered : List Answered) (rest batch more : List (List ℕ)) (place next : ℕ) (before after : Tally) (middle new : Footing L) (told : BatchReply)
      → Come state d insert documents answered rest place before old middle → IsFirstBatch d insert rest batch more → 0 < length batch → next ≡ place + length batch
      → (ends : EndsBatch state d insert batch place (Ok told) before after middle new) → (Stops insert.ordered ends.added.0 → ⊥)
      → Come state d insert documents (answered ++ ends.added.0 ∷ []) more next after old new
  come_more answered rest batch more place next before after middle new told come first some is ends not =
      let a = ends.added.0 in
      let adds = ends.added.1 in
      let first_a : IsFirstBatch d insert rest a.batch more = subst (λ b. IsFirstBatch d insert rest b more) (sym adds.batch_is) first in
      let parts : length rest ≡ length batch + length more = ap length first.joined ∙ length-append batch more in
      let exchange : Exchanges d.max_message_size_bytes (insert_message insert a.batch) (at state middle) (at state new) a.reply = subst (λ b. Exchanges d.max_message_size_bytes (insert_message insert b) (at state middle) (at state new) a.reply) (sym adds.batch_is) ends.added.2 in
      let sized : length a.batch ≡ length batch = ap length adds.batch_is in
      record {
        sent = record {
          cut = cut_more d insert documents answered rest more a come.sent.cut first_a;
          exchanged = exchanged_more d insert answered a (at state old) (at state middle) (at state new) come.sent.exchanged exchange;
          replies = All-push IsAnswered answered a come.sent.replies adds.is_answered;
        };
        on = All-push (λ x. Stops insert.ordered x → ⊥) answered a come.on not;
        outcome = adds.added ∙ ap (with_told place told) come.outcome ∙ outcome_more answered a place told come.place_is adds.tells;
        behind = adds.behind;
        accepted = All-from_recursion (IsAccepted d insert) more (all_later (IsAccepted d insert) batch more (recursion_from_All (IsAccepted d insert) (batch ++ more) (subst (All (IsAccepted d insert)) first.joined come.accepted)));
        place_is = omega (arith, is, come.place_is, sum_more (λ x. length x.batch) answered a, sized);
        left = omega (arith, is, come.left, parts);
        inserted = omega (arith, is, ap (λ (o : InsertOutcome). o.inserted) adds.added, come.inserted, adds.within.count);
        batches = omega (arith, is, ap (λ (o : InsertOutcome). o.batches) adds.added, come.batches, some);
        unkept = ends.faultless;
        keeps = keeps_on old.connection middle.connection new.connection come.keeps ends.rest;
        counts = counts_on (state old.link) (state middle.link) (state new.link) come.counts ends.counts;
      }

  pub come_all : (plan : Plan) (answered : List Answered) (place : ℕ) (tally : Tally) (now : Footing L) → IsPlan d insert documents plan → Come state d insert documents answered [] place tally old now → EndsBatches state d insert documents (Ok tally.outcome) old now
  come_all plan answered place tally now is come = record {
    inserted = record {
      sendable = is.sendable;
      answered = answered;
      rest = [];
      sent = come.sent;
      stop = goes_all insert.ordered answered (recursion_from_All (λ a. Stops insert.ordered a → ⊥) answered come.on);
      outcome_is = come.outcome;
    };
    refused = tt;
    faultless = come.unkept;
    rest = come.keeps;
    counts = come.counts;
  }

  pub come_stopped : (plan : Plan) (answered : List Answered) (rest batch more : List (List ℕ)) (place : ℕ) (before after : Tally) (middle new : Footing L) (told : BatchReply) → IsPlan d insert documents plan
      → Come state d insert documents answered rest place before old middle → IsFirstBatch d insert rest batch more
      → (ends : EndsBatch state d insert batch place (Ok told) before after middle new) → Stops insert.ordered ends.added.0
      → EndsBatches state d insert documents (Ok after.outcome) old new
  come_stopped plan answered rest batch more place before after middle new told is come first ends stops =
      let a = ends.added.0 in
      let adds = ends.added.1 in
      let first_a : IsFirstBatch d insert rest a.batch more = subst (λ b. IsFirstBatch d insert rest b more) (sym adds.batch_is) first in
      let exchange : Exchanges d.max_message_size_bytes (insert_message insert a.batch) (at state middle) (at state new) a.reply = subst (λ b. Exchanges d.max_message_size_bytes (insert_message insert b) (at state middle) (at state new) a.reply) (sym adds.batch_is) ends.added.2 in
      record {
        inserted = record {
          sendable = is.sendable;
          answered = answered ++ a ∷ [];
          rest = more;
          sent = record {
            cut = cut_more d insert documents answered rest more a come.sent.cut first_a;
            exchanged = exchanged_more d insert answered a (at state old) (at state middle) (at state new) come.sent.exchanged exchange;
            replies = All-push IsAnswered answered a come.sent.replies adds.is_answered;
          };
          stop = goes_stopped insert.ordered answered a more (recursion_from_All (λ x. Stops insert.ordered x → ⊥) answered come.on) stops;
          outcome_is = adds.added ∙ ap (with_told place told) come.outcome ∙ outcome_more answered a place told come.place_is adds.tells;
        };
        refused = tt;
        faultless = ends.faultless;
        rest = keeps_on old.connection middle.connection new.connection come.keeps ends.rest;
        counts = counts_on (state old.link) (state middle.link) (state new.link) come.counts ends.counts;
      }

  pub come_refused : (plan : Plan) (answered : List Answered) (rest batch more : List (List ℕ)) (place : ℕ) (before after : Tally) (middle new : Footing L) (error : Error) → IsPlan d insert documents plan
      → Come state d insert documents answered rest place before old middle → IsFirstBatch d insert rest batch more → 0 < length rest
      → EndsBatch state d insert batch place (Err error) before after middle new
      → EndsBatches state d insert documents (Err (record { error = Wire error; done = after.outcome })) old new
  come_refused plan answered rest batch more place before after middle new error is come first some ends = record {
    inserted = tt;
    refused = record {
      sendable = is.sendable;
      answered = answered;
      rest = rest;
      middle = at state middle;
      sent = come.sent;
      on = come.on;
      done = ends.refused.1 ∙ come.outcome;
      left = some;
      batch = batch;
      more = more;
      next = first;
      kind = error.kind;
      error = refl;
      refused = ends.refused.0;
    };
    faultless = tt;
    rest = keeps_on old.connection middle.connection new.connection come.keeps ends.rest;
    counts = counts_on (state old.link) (state middle.link) (state new.link) come.counts ends.counts;
  }
