-- What a document's read has taken, whole or cut short.
use Rattle.std.proofs.Common.{◌≡◌, ℕ, pos, ◌+◌, ◌-◌, ◌*◌, ◌≤◌, max, Option, None, Some, List, [], ◌++◌, length, take, drop, is_some, refl, sym, ap, ◌∙◌, subst, append-nil, length-append, inl, inr, arith}
use Rattle.std.proofs.lemmas.Int.{ints}
use Rattle.std.proofs.lemmas.List.{take_all, take-append-drop, length-drop}
use Rattle.std.proofs.KnownBytes.{Consumes-trans}
use Rattle.std.specs.Int.{cast_signed, w32}
use Rattle.std.specs.Io.KnownBytes.{Consumes}
use Rattle.mongo_bson.proofs.Sizes.{number_at_front}
use Rattle.mongo_wire.specs.Buffer.{piece_length}
use Rattle.mongo_wire.specs.Header.{signed_at}
use Rattle.mongo_wire.specs.Outside.{State, Unstopped, ReadStops, ConsumesAtMost, ConsumesFewer, RanOut}
use Rattle.mongo_wire.specs.Rows.{IsEmptied}
use Rattle.mongo_wire.specs.Small.{DocumentUnread, IsStartedDocument, IsShortDocument, TakesSuch, TakesDocument}
use Rattle.mongo_wire.specs.declared.error.ErrorKind.{ErrorKind}
use Rattle.mongo_wire.proofs.ReadStopped.{stop_cases, unstopped_on, fails_after, ends_after}

signed_front : (field more : List ℕ) → length field ≡ 4 → signed_at 0 (field ++ more) ≡ signed_at 0 field
signed_front field more four = ap (cast_signed w32) (number_at_front field more (omega arith))

-- ---- the length was cut short

ended_early : (old new : Option (List ℕ)) → is_some new ≡ is_some old → RanOut old new 4 → TakesSuch IsShortDocument old new × IsEmptied new
ended_early None None tells ran = (([], tt, inl (omega arith)), tt)
ended_early None (Some rest) tells ran = absurd (cc)
ended_early (Some bytes) new tells ran =
    let all : TakesSuch IsShortDocument (Some bytes) (Some []) × IsEmptied (Some []) = ((bytes, sym (append-nil bytes), inl ran.0), refl) in
    subst (λ s. TakesSuch IsShortDocument (Some bytes) s × IsEmptied s) (sym ran.1) all

pub length_cut : (kind : ErrorKind) (old new : State) → is_some new.left ≡ is_some old.left → ReadStops kind old new 4 → DocumentUnread kind old new
length_cut kind old new tells s =
    stop_cases (λ k. DocumentUnread k old new) kind old new 4 s
    (λ _ f. (f.0, (f.1.0, f.1.2, inl f.1.1))) (λ _ e. let (taken, empty) = ended_early old.left new.left tells e.1 in (e.0, taken, empty)) (λ _ m. (m.0, (m.1.0, m.1.2, inl m.1.1)))

-- ---- the length came, and what it counts didn't

started : (old mid new : Option (List ℕ)) (field : List ℕ) (n part : ℕ) → Consumes old mid field → length field ≡ 4 → signed_at 0 field ≡ pos n → 4 + part ≡ n → ConsumesAtMost mid new part → TakesSuch IsStartedDocument old new
started old mid new field n part p four is least (more, within, q) =
    let front = signed_front field more four in
    (field ++ more, Consumes-trans old mid new field more p q, inr (omega (arith, four, length-append field more), omega (arith, ints, front, is, least), omega (arith, ints, front, is, least, within, four, length-append field more)))

unfinished : (old mid new : Option (List ℕ)) (field : List ℕ) (n part : ℕ) → Consumes old mid field → length field ≡ 4 → signed_at 0 field ≡ pos n → 4 + part ≡ n → ConsumesFewer mid new part → TakesSuch IsShortDocument old new
unfinished old mid new field n part p four is least (more, within, q) =
    let front = signed_front field more four in
    (field ++ more, Consumes-trans old mid new field more p q, inr (omega (arith, four, length-append field more), omega (arith, ints, front, is, least), omega (arith, ints, front, is, least, within, four, length-append field more)))

short : (old mid new : Option (List ℕ)) (field : List ℕ) (n part : ℕ) → is_some new ≡ is_some mid → Consumes old mid field → length field ≡ 4 → signed_at 0 field ≡ pos n → 4 + part ≡ n → RanOut mid new part → TakesSuch IsShortDocument old new × IsEmptied new
short None None None field n part tells p four is least ran = (([], tt, inl (omega arith)), tt)
short None None (Some rest) field n part tells p four is least ran = absurd (cc)
short (Some xs) None new field n part tells p four is least ran = absurd p
short old (Some bytes) new field n part tells p four is least ran =
    let front = signed_front field bytes four in
    let taken : Consumes (Some bytes) (Some []) bytes = sym (append-nil bytes) in
    let all : TakesSuch IsShortDocument old (Some []) = (field ++ bytes, Consumes-trans old (Some bytes) (Some []) field bytes p taken, inr (omega (arith, four, length-append field bytes), omega (arith, ints, front, is, least), omega (arith, ints, front, is, ran.0, four, length-append field bytes))) in
    let both : TakesSuch IsShortDocument old (Some []) × IsEmptied (Some []) = (all, refl) in
    subst (λ s. TakesSuch IsShortDocument old s × IsEmptied s) (sym ran.1) both

pub document_cut : (kind : ErrorKind) (old mid new : State) (field : List ℕ) (n part : ℕ)
    → is_some new.left ≡ is_some mid.left → Consumes old.left mid.left field → length field ≡ 4 → signed_at 0 field ≡ pos n → 4 + part ≡ n → Unstopped old mid → ReadStops kind mid new part
    → DocumentUnread kind old new
document_cut kind old mid new field n part tells p four is least still s =
    stop_cases (λ k. DocumentUnread k old new) kind mid new part s
    (λ _ f. (fails_after old mid new still f.0, unfinished old.left mid.left new.left field n part p four is least f.1))
    (λ _ e. let (taken, empty) = short old.left mid.left new.left field n part tells p four is least e.1 in (ends_after old mid new still e.0, taken, empty))
    (λ _ m. (unstopped_on old mid new still m.0, started old.left mid.left new.left field n part p four is least m.1))

-- ---- the whole document came

pub document_taken : (old mid new : State) (field whole : List ℕ) (n : ℕ) → Consumes old.left mid.left field → length field ≡ 4 → signed_at 0 field ≡ pos n → 4 ≤ n
    → take 4 whole ≡ take 4 field → length whole ≡ n → Consumes mid.left new.left (take (n - 4) (drop 4 whole)) → Unstopped old new → TakesDocument old new whole
document_taken old mid new field whole n p four is least front size q still =
    let rest : take (n - 4) (drop 4 whole) ≡ drop 4 whole = take_all (n - 4) (drop 4 whole) (omega (arith, length-drop 4 whole, size)) in
    let joined : field ++ drop 4 whole ≡ whole = ap (λ f. f ++ drop 4 whole) (sym (front ∙ take_all 4 field (omega (arith, four)))) ∙ take-append-drop 4 whole in
    record {
      taken = subst (Consumes old.left new.left) joined (Consumes-trans old.left mid.left new.left field (drop 4 whole) p (subst (Consumes mid.left new.left) rest q));
      unstopped = still;
      least = omega (arith, least, size);
      counted = ap (signed_at 0) (sym joined) ∙ signed_front field (drop 4 whole) four ∙ is ∙ ap pos (sym size);
    }

-- ---- memory

-- memory for the length, and then for what it counts
pub memory_after : (old mid new : Option (List ℕ)) (field had left : List ℕ) (first second third : ℕ) → Consumes old mid field → old ≡ Some had → new ≡ Some left → length field ≤ length had - length left → length field ≡ 4
    → ((h l : List ℕ) → old ≡ Some h → mid ≡ Some l → second ≤ max first (piece_length + 2 * (length h - length l)))
    → ((h l : List ℕ) → mid ≡ Some h → new ≡ Some l → third ≤ max second (piece_length + 2 * (4 + (length h - length l))))
    → third ≤ max first (piece_length + 2 * (length had - length left))
memory_after old None new field had left first second third p had_is left_is some four a b = absurd (rw had_is at p)
memory_after old (Some there) new field had left first second third p had_is left_is some four a b =
    let spelled : had ≡ field ++ there = rw had_is at p in
    omega (arith, ap length spelled, length-append field there, some, four, a had there had_is refl, b there left refl left_is)
