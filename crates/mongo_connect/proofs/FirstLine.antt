-- What was read of an input up to a line feed, its end or the greatest length is its first line, and what is left follows that.
use Rattle.std.proofs.Common.{◌≡◌, ℕ, suc, ◌+◌, ◌<◌, ◌≤◌, ◌∙◌, Bool, true, false, not, cond, Option, None, Some, List, [], ◌∷◌, ◌++◌, length, take, drop, refl, sym, ap, subst, arith, append-nil, append_assoc, length-append, inl, inr}
use Rattle.std.proofs.Math.Seq.{take-append-add, drop-append-add, take-append_seam, drop-append_seam}
use Rattle.std.proofs.lemmas.Bool.{le-leb, lt-leb}
use Rattle.std.proofs.lemmas.Bool.Decides.{nat_tests}
use Rattle.std.proofs.lemmas.List.{take_all}
use Rattle.std.specs.Bool.{if◌then◌else◌}
use Rattle.std.specs.Option.{option_to_list}
use Rattle.std.specs.Io.KnownBytes.{Consumes, IsAtEnd, Keeps}
use Rattle.std.proofs.KnownBytes.{Consumes-trans, Consumes-kept}
use Rattle.mongo_wire.specs.Outside.{State, ReadsOn, Rose, risen, NoReadFailed, NoReadEnded, EndsAtMostOnce}
use Rattle.mongo_wire.proofs.ReadStopped.{reads_on}
use Rattle.std.specs.List.{position_or_len, before_first, after_first}
use Rattle.mongo_settings.specs.Settings.{maximum_settings_length}
use Rattle.mongo_connect.specs.Input.{is_line_feed, line_of, after_line, IsUnbroken, TakesOfLine, TakesNoLineFeed, MeetsEndUnless, MeetsEndOfLine, LineRead}

-- the first line feed stands after bytes that have none
past_byte : (b : Bool) (held rest n m : ℕ) → cond (not b) (1 + held) 0 ≡ suc n → (held ≡ n → rest ≡ n + m) → cond (not b) (1 + rest) 0 ≡ suc n + m
past_byte true held rest n m e more = absurd (omega arith)
past_byte false held rest n m e more = let is = more (omega arith) in omega arith

past : (held rest : List ℕ) → IsUnbroken held → position_or_len is_line_feed (held ++ rest) ≡ length held + position_or_len is_line_feed rest
past [] rest unbroken = omega arith
past (byte ∷ held) rest unbroken = past_byte (is_line_feed byte) (position_or_len is_line_feed held) (position_or_len is_line_feed (held ++ rest)) (length held) (position_or_len is_line_feed rest) unbroken (λ e. past held rest e)

no_line_feed : (byte : ℕ) → (byte ≡ 10 → ⊥) → is_line_feed byte ≡ false
no_line_feed byte other = grind (arith, nat_tests)

pub unbroken_push : (held : List ℕ) (byte : ℕ) → IsUnbroken held → is_line_feed byte ≡ false → IsUnbroken (held ++ byte ∷ [])
unbroken_push held byte unbroken other =
    let one : position_or_len is_line_feed (byte ∷ []) ≡ 1 = ap (λ b. cond (not b) 1 0) other in
    let all = past held (byte ∷ []) unbroken in
    omega (arith, length-append held (byte ∷ []))

before : (held rest : List ℕ) → IsUnbroken held → before_first is_line_feed (held ++ rest) ≡ held ++ before_first is_line_feed rest
before held rest unbroken = ap (λ n. take n (held ++ rest)) (past held rest unbroken) ∙ take-append-add held rest (position_or_len is_line_feed rest)

after : (held rest : List ℕ) → IsUnbroken held → after_first is_line_feed (held ++ rest) ≡ after_first is_line_feed rest
after held rest unbroken =
    let place : position_or_len is_line_feed (held ++ rest) + 1 ≡ length held + (position_or_len is_line_feed rest + 1) = let e = past held rest unbroken in omega arith in
    ap (λ n. drop n (held ++ rest)) place ∙ drop-append-add held rest (position_or_len is_line_feed rest + 1)

-- a line within the greatest length, and what follows it
pub record First (line rest input : List ℕ) : Type 0 where
  pub line_is : line ≡ line_of input
  pub rest_is : rest ≡ after_line input

within : (line rest input : List ℕ) → before_first is_line_feed input ≡ line → after_first is_line_feed input ≡ rest → length line ≤ maximum_settings_length → First line rest input
unfolding line_of after_line
within line rest input before_is after_is short =
    let room : length line ≤ maximum_settings_length + 1 = omega arith in
    record {
      line_is = sym (ap (take (maximum_settings_length + 1)) before_is ∙ take_all (maximum_settings_length + 1) line room);
      rest_is = sym (rw (before_is, le-leb (length line) maximum_settings_length short) after_is);
    }

first_fed : (held rest : List ℕ) → IsUnbroken held → length held ≤ maximum_settings_length → First held rest (held ++ 10 ∷ rest)
first_fed held rest unbroken short = within held rest (held ++ 10 ∷ rest) (before held (10 ∷ rest) unbroken ∙ append-nil held) (after held (10 ∷ rest) unbroken) short

first_ended : (held : List ℕ) → IsUnbroken held → length held ≤ maximum_settings_length → First held [] (held ++ [])
first_ended held unbroken short = within held [] (held ++ []) (before held [] unbroken ∙ append-nil held) (after held [] unbroken) short

first_cut : (held rest : List ℕ) → IsUnbroken held → length held ≡ maximum_settings_length + 1 → First held rest (held ++ rest)
unfolding line_of after_line
first_cut held rest unbroken long =
    let more = before_first is_line_feed rest in
    let longer : maximum_settings_length < length (held ++ more) = omega (arith, length-append held more) in
    record {
      line_is = sym (rw (before held rest unbroken) (ap (λ n. take n (held ++ more)) (sym long) ∙ take-append_seam held more));
      rest_is = sym (rw (before held rest unbroken, lt-leb (length (held ++ more)) maximum_settings_length longer) (ap (λ n. drop n (held ++ rest)) (sym long) ∙ drop-append_seam held rest));
    }

-- ---- what a source gave

-- a source that tells its bytes had these in front
given_front : (old new : Option (List ℕ)) (given input : List ℕ) → old ≡ Some input → Consumes old new given → (rest : List ℕ) × (new ≡ Some rest) × (input ≡ given ++ rest)
given_front old None given input told consumed = absurd (subst (λ o. Consumes o None given) told consumed)
given_front old (Some rest) given input told consumed = (rest, refl, subst (λ o. Consumes o (Some rest) given) told consumed)

-- how a line ended that is the first of its input, where the end was met just then
record LineEnds (line rest input : List ℕ) (old new : State) : Type 0 where
  first : First line rest input
  met : MeetsEndOfLine input old new

end_fed : (held rest : List ℕ) (old new : State) → IsUnbroken held → length held ≤ maximum_settings_length → NoReadEnded old new → LineEnds held rest (held ++ 10 ∷ rest) old new
end_fed held rest old new unbroken short still =
    let stands : position_or_len is_line_feed (held ++ 10 ∷ rest) < length (held ++ 10 ∷ rest) = omega (arith, past held (10 ∷ rest) unbroken, length-append held (10 ∷ rest)) in
    record {
      first = first_fed held rest unbroken short;
      met = record { ended = λ whole within. absurd (omega (arith, stands, whole)); fed = λ _. still; cut = λ _. still };
    }

end_met : (held : List ℕ) (old new : State) → IsUnbroken held → length held ≤ maximum_settings_length → Rose old.ends new.ends → LineEnds held [] (held ++ []) old new
end_met held old new unbroken short rose =
    let all = past held [] unbroken in
    let size = length-append held [] in
    record {
      first = first_ended held unbroken short;
      met = record { ended = λ _ _. rose; fed = λ stands. absurd (omega (arith, stands, all, size)); cut = λ long. absurd (omega (arith, long, short, size)) };
    }

end_cut : (held rest : List ℕ) (old new : State) → IsUnbroken held → length held ≡ maximum_settings_length + 1 → NoReadEnded old new → LineEnds held rest (held ++ rest) old new
end_cut held rest old new unbroken long still = record {
  first = first_cut held rest unbroken long;
  met = record { ended = λ whole within. absurd (omega (arith, within, long, length-append held rest)); fed = λ _. still; cut = λ _. still };
}

-- of an input in front of which these bytes were given
line_told : (held given input : List ℕ) (old new : State) → Consumes old.left new.left given → ((rest : List ℕ) → new.left ≡ Some rest → LineEnds held rest (given ++ rest) old new) → old.left ≡ Some input
    → (rest : List ℕ) × (new.left ≡ Some rest) × LineEnds held rest input old new
line_told held given input old new consumed ends told =
    let (rest, is, joined) = given_front old.left new.left given input told consumed in
    (rest, is, subst (λ l. LineEnds held rest l old new) (sym joined) (ends rest is))

line_given : (held given : List ℕ) (old new : State) → Consumes old.left new.left given → ((rest : List ℕ) → new.left ≡ Some rest → LineEnds held rest (given ++ rest) old new)
    → ReadsOn old new → NoReadFailed old new → EndsAtMostOnce old new → LineRead held old new
line_given held given old new consumed ends on unfailed once = record {
  on = on;
  unfailed = unfailed;
  ended = once;
  met = λ input told. let (rest, is, e) = line_told held given input old new consumed ends told in e.met;
  line_is = λ input told. let (rest, is, e) = line_told held given input old new consumed ends told in e.first.line_is;
  left = λ input told. let (rest, is, e) = line_told held given input old new consumed ends told in is ∙ ap Some e.first.rest_is;
}

-- ---- what was taken

-- what is held is what the source gave so far, and no line feed
pub record HeldSoFar (old new : State) (held : List ℕ) : Type 0 where
  pub within : length held ≤ maximum_settings_length + 1
  pub unbroken : IsUnbroken held
  pub front : Consumes old.left new.left held
  pub unfailed : NoReadFailed old new
  pub unended : NoReadEnded old new
  pub on : ReadsOn old new

stops : (old new : Option (List ℕ)) (held : List ℕ) → IsUnbroken held → length held ≤ maximum_settings_length + 1 → Consumes old new held → TakesNoLineFeed old new
stops old new held unbroken within taken = record { taken = held; unended = unbroken; short = within; consumed = taken }

-- what stopped within the line has taken no more than the line
pub takes_stopped : (old new : Option (List ℕ)) → TakesNoLineFeed old new → TakesOfLine old new
takes_stopped old new s = record { taken = s.taken; one_line = let e = s.unended in omega arith; short = s.short; consumed = s.consumed }

-- so far there was no line feed
pub stops_held : (old new : State) (held : List ℕ) → HeldSoFar old new held → TakesNoLineFeed old.left new.left
stops_held old new held so_far = stops old.left new.left held so_far.unbroken so_far.within so_far.front

-- past the greatest length the line is cut
pub line_cut : (old new : State) (held : List ℕ) → HeldSoFar old new held → length held ≡ maximum_settings_length + 1 → LineRead held old new
line_cut old new held so_far long =
    line_given held held old new so_far.front (λ rest is. end_cut held rest old new so_far.unbroken long so_far.unended) so_far.on so_far.unfailed (inl so_far.unended)

module _ (old mid new : State) (held : List ℕ) (so_far : HeldSoFar old mid held) where
  -- no end was met with a byte
  pub still_unended : (next : Option ℕ) (byte : ℕ) → next ≡ Some byte → MeetsEndUnless next mid new → NoReadEnded old new
  still_unended next byte is ends =
      let still : NoReadEnded mid new = subst (λ n. MeetsEndUnless n mid new) is ends in
      still ∙ so_far.unended

  -- a line feed ends the line
  pub line_fed : (next : Option ℕ) (byte : ℕ) → next ≡ Some byte → byte ≡ 10 → length held ≤ maximum_settings_length → Consumes mid.left new.left (option_to_list next) → NoReadFailed mid new → MeetsEndUnless next mid new → ReadsOn mid new → LineRead held old new
  line_fed next byte is feed short last unfailed ends on =
      let e : option_to_list next ≡ 10 ∷ [] = ap option_to_list is ∙ ap (λ b. b ∷ []) feed in
      let taken = Consumes-trans old.left mid.left new.left held (10 ∷ []) so_far.front (subst (Consumes mid.left new.left) e last) in
      let still = still_unended next byte is ends in
      line_given held (held ++ 10 ∷ []) old new taken (λ rest is. simp append_assoc (end_fed held rest old new so_far.unbroken short still)) (reads_on old mid new so_far.on on) (unfailed ∙ so_far.unfailed) (inl still)

  -- so does the input's end
  pub line_ended : (next : Option ℕ) → next ≡ None → length held ≤ maximum_settings_length → Consumes mid.left new.left (option_to_list next) → (next ≡ None → IsAtEnd new.left) → NoReadFailed mid new → MeetsEndUnless next mid new → ReadsOn mid new → LineRead held old new
  line_ended next is short last end unfailed ends on =
      let e : held ++ option_to_list next ≡ held = ap (λ n. held ++ option_to_list n) is ∙ append-nil held in
      let taken = subst (Consumes old.left new.left) e (Consumes-trans old.left mid.left new.left held (option_to_list next) so_far.front last) in
      let met : Rose mid.ends new.ends = subst (λ n. MeetsEndUnless n mid new) is ends in
      let rose : Rose old.ends new.ends = met ∙ ap risen so_far.unended in
      line_given held held old new taken (λ rest at. subst (λ r. LineEnds held r (held ++ r) old new) (sym (subst IsAtEnd at (end is))) (end_met held old new so_far.unbroken short rose)) (reads_on old mid new so_far.on on) (unfailed ∙ so_far.unfailed) (inr rose)

  -- nothing else was taken
  pub stops_kept : Keeps mid.left new.left → TakesNoLineFeed old.left new.left
  stops_kept kept = stops old.left new.left held so_far.unbroken so_far.within (Consumes-kept old.left mid.left new.left held so_far.front kept)

  -- the next byte was taken, where there is one
  pub takes_next : (next : Option ℕ) → length held ≤ maximum_settings_length → Consumes mid.left new.left (option_to_list next) → TakesOfLine old.left new.left
  takes_next None short taken = takes_stopped old.left new.left (stops old.left new.left held so_far.unbroken so_far.within (subst (Consumes old.left new.left) (append-nil held) (Consumes-trans old.left mid.left new.left held [] so_far.front taken)))
  takes_next (Some byte) short taken =
      let longer = length-append held (byte ∷ []) in
      record {
        taken = held ++ byte ∷ [];
        one_line = omega (arith, past held (byte ∷ []) so_far.unbroken, longer);
        short = omega (arith, short, longer);
        consumed = Consumes-trans old.left mid.left new.left held (byte ∷ []) so_far.front taken;
      }

  -- it is no line feed
  pub one_more : (next : Option ℕ) (byte : ℕ) → next ≡ Some byte → (byte ≡ 10 → ⊥) → length held ≤ maximum_settings_length → Consumes mid.left new.left (option_to_list next) → NoReadFailed mid new → MeetsEndUnless next mid new → ReadsOn mid new → HeldSoFar old new (held ++ byte ∷ [])
  one_more next byte is other short taken unfailed ends on = record {
    within = omega (arith, short, length-append held (byte ∷ []));
    unbroken = unbroken_push held byte so_far.unbroken (no_line_feed byte other);
    front = Consumes-trans old.left mid.left new.left held (byte ∷ []) so_far.front (subst (λ n. Consumes mid.left new.left (option_to_list n)) is taken);
    unfailed = unfailed ∙ so_far.unfailed;
    unended = still_unended next byte is ends;
    on = reads_on old mid new so_far.on on;
  }

  -- and was pushed
  pub one_pushed : (next : Option ℕ) (byte : ℕ) (pushed : Bool) (longer : List ℕ) → next ≡ Some byte → (byte ≡ 10 → ⊥) → longer ≡ (if pushed then held ++ byte ∷ [] else held) → pushed ≡ true → length held ≤ maximum_settings_length
      → Consumes mid.left new.left (option_to_list next) → NoReadFailed mid new → MeetsEndUnless next mid new → ReadsOn mid new → HeldSoFar old new longer
  one_pushed next byte false longer is other grown ok short taken unfailed ends on = absurd cc
  one_pushed next byte true longer is other grown ok short taken unfailed ends on = subst (HeldSoFar old new) (sym grown) (one_more next byte is other short taken unfailed ends on)
