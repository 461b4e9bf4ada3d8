-- What the exits of reading a frame say.
use Rattle.std.proofs.Common.{◌≡◌, ℕ, ℤ, pos, ◌≤ℤ◌, ◌+◌, ◌-◌, ◌*◌, ◌<◌, ◌≤◌, max, ◌⊎◌, inl, inr, Bool, true, false, is_some, Option, None, Some, IfSome, List, [], ◌++◌, length, refl, sym, ap, ◌∙◌, subst, arith, length-append, append-nil}
use Rattle.std.specs.Prelude.{int_lt, if◌then◌else◌}
use Rattle.std.proofs.lemmas.Int.{ints}
use Rattle.std.proofs.lemmas.Bool.{false≢true}
use Rattle.std.proofs.KnownBytes.{Consumes-trans}
use Rattle.std.specs.Io.KnownBytes.{Consumes}
use Rattle.mongo_wire.specs.Outside.{State, Unstopped, ReadStops, ConsumesAtMost, ConsumesFewer, RanOut}
use Rattle.mongo_wire.specs.Frame.{Frame, IsFrame}
use Rattle.mongo_wire.specs.Header.{signed_at, op_code_of}
use Rattle.mongo_wire.specs.Rows.{Passes, FrameRow, TakesRow, TakesStarted, TakesUnfinished, IsEmptied, header_row, length_row, code_row}
use Rattle.mongo_wire.specs.Message.{ReadRefused, IsUnreadable}
use Rattle.std.proofs.lemmas.List.{drop_at}
use Rattle.mongo_wire.specs.Held.{NoFrame, IsHeld}
use Rattle.mongo_wire.specs.declared.held_frame.HeldFrame.{HeldFrame}
use Rattle.mongo_wire.specs.Buffer.{HoldsFrame, held_bytes, IsFrameTaken, GrowsFor, StaysWithin, UsesMemory, memory_of, piece_length}
use Rattle.mongo_wire.specs.declared.op_code.OpCode.{OpCode}
use Rattle.mongo_wire.specs.declared.op_code.OpCode.TheVariants as op_code
use Rattle.mongo_wire.specs.declared.fault.ArgumentFault.{ArgumentFault}
use Rattle.mongo_wire.specs.declared.fault.ArgumentFault.TheVariants.{CheckedFailure}
use Rattle.mongo_wire.specs.declared.fault.ResponseFault.{ResponseFault}
use Rattle.mongo_wire.specs.declared.fault.ResponseFault.TheVariants.{OpCode as OpCodeFault, OverMaximum, Compressed, NotMessage, Sections}
use Rattle.mongo_wire.specs.declared.frame_buffer.FrameBuffer.{FrameBuffer}
use Rattle.mongo_wire.specs.declared.error.ErrorKind.{ErrorKind}
use Rattle.mongo_wire.specs.declared.error.ErrorKind.TheVariants.{InvalidArgument, InvalidResponse, Command, Authentication, IncompatibleServer, Write, InsertMany, ReadFault, WriteFault, EndOfInput, Callback, PasswordNotAscii, OutOfMemory}
use Rattle.mongo_wire.proofs.OneFrame.{one_frame, least_frame, row_no_frame, row_in, signed_in}
use Rattle.mongo_wire.proofs.ReadStopped.{stop_cases, unstopped_on, fails_after, ends_after}

-- where nothing is told, nothing is told after it
emptied_untold : (new : Option (List ℕ)) → is_some new ≡ false → IsEmptied new
emptied_untold None e = tt
emptied_untold (Some rest) e = absurd (false≢true (sym e))

-- ---- the header was refused

short_header : (maximum : ℤ) (old new : Option (List ℕ)) → is_some new ≡ is_some old → RanOut old new 16 → TakesRow EndOfInput maximum old new × IsEmptied new
short_header maximum None new tells r = (([], tt, inl (record { short = omega arith; kind_is = refl })), emptied_untold new tells)
short_header maximum (Some bytes) new tells r =
    let none : (Consumes (Some bytes) new bytes) × IsEmptied new = subst (λ n. Consumes (Some bytes) n bytes × IsEmptied n) (sym r.1) (sym (append-nil bytes), refl) in
    ((bytes, none.0, inl (record { short = r.0; kind_is = refl })), none.1)

pub header_stopped : (kind : ErrorKind) (maximum : ℤ) (old new : State) → is_some new.left ≡ is_some old.left → ReadStops kind old new 16 → ReadRefused kind maximum old new
header_stopped kind maximum old new tells s =
    stop_cases (λ k. ReadRefused k maximum old new) kind old new 16 s
    (λ _ f. (f.0, unfinished f.1)) (λ _ e. let (row, empty) = short_header maximum old.left new.left tells e.1 in (e.0, row, empty)) (λ _ m. (m.0, started m.1))
  where
    started : ConsumesAtMost old.left new.left 16 → TakesStarted maximum old.left new.left
    started c = (c.0, c.2, inl c.1)

    unfinished : ConsumesFewer old.left new.left 16 → TakesUnfinished maximum old.left new.left
    unfinished c = (c.0, c.2, inl c.1)

-- ---- the header calls for a row

same_kind : (a kind : ErrorKind) → Some a ≡ Some kind → a ≡ kind
same_kind a kind p = cc

code_cases : (P : ErrorKind → Type 0) (length : ℤ) (code : OpCode) (kind : ErrorKind) → code_row length code ≡ Some kind
    → ((fault : ResponseFault) → P (InvalidResponse fault)) → ((fault : ArgumentFault) → P (InvalidArgument fault)) → P kind
code_cases P length op_code.Compressed kind e response argument = subst P (same_kind _ kind e) (response Compressed)
code_cases P length op_code.Reply kind e response argument = subst P (same_kind _ kind e) (response NotMessage)
code_cases P length op_code.Query kind e response argument = subst P (same_kind _ kind e) (response NotMessage)
code_cases P length op_code.Message kind e response argument = by (int_lt length (pos 16)) e
  where
    by : (short : Bool) → (if short then Some (InvalidArgument CheckedFailure) else None) ≡ Some kind → P kind
    by true p = subst P (same_kind _ kind p) (argument CheckedFailure)
    by false p = absurd (false≢true (ap is_some p))

row_cases : (P : ErrorKind → Type 0) (maximum length : ℤ) (code : Option OpCode) (number : ℤ) (kind : ErrorKind) → length_row maximum length code number ≡ Some kind
    → ((fault : ResponseFault) → P (InvalidResponse fault)) → ((fault : ArgumentFault) → P (InvalidArgument fault)) → P kind
row_cases P maximum length None number kind e response argument = subst P (same_kind _ kind e) (response (OpCodeFault number))
row_cases P maximum length (Some code) number kind e response argument = by (int_lt maximum length) e
  where
    by : (over : Bool) → (if over then Some (InvalidResponse OverMaximum) else code_row length code) ≡ Some kind → P kind
    by true p = subst P (same_kind _ kind p) (response OverMaximum)
    by false p = code_cases P length code kind p response argument

pub header_refused : (kind : ErrorKind) (maximum : ℤ) (old new : State) (head : List ℕ) → Consumes old.left new.left head → Unstopped old new → length head ≡ 16 → header_row maximum head ≡ Some kind → ReadRefused kind maximum old new
header_refused kind maximum old new head taken still sixteen row =
    row_cases (λ k. TakesRow k maximum old.left new.left → ReadRefused k maximum old new) maximum (signed_at 0 head) _ (signed_at 12 head) kind row (λ fault t. (still, t)) (λ fault t. (still, t))
    (head, taken, inr (inl (record { header = sixteen; row = row })))

-- the row of an op code that is unknown
pub unknown_row : (maximum : ℤ) (head : List ℕ) (fault : ResponseFault) → (fault ≡ OpCodeFault (signed_at 12 head)) × (op_code_of (signed_at 12 head) ≡ None) → header_row maximum head ≡ Some (InvalidResponse fault)
unknown_row maximum head fault (fault_is, unknown) =
    ap (λ code. length_row maximum (signed_at 0 head) code (signed_at 12 head)) unknown ∙ ap (λ f. Some (InvalidResponse f)) (sym fault_is)

-- ---- what follows the header was refused

-- the header passes, and bytes after it came
passes : (maximum : ℤ) (head more : List ℕ) → length head ≡ 16 → header_row maximum head ≡ None → Passes maximum (head ++ more)
passes maximum head more sixteen row = record { whole = omega (arith, length-append head more); good = row_in maximum head more (omega arith) ∙ row }

size_with : (head more : List ℕ) → length head ≡ 16 → signed_at 0 (head ++ more) ≡ signed_at 0 head
size_with head more sixteen = signed_in 0 head more (omega arith)

short_frame : (maximum : ℤ) (head more : List ℕ) (wanted : ℕ) → length head ≡ 16 → header_row maximum head ≡ None → pos (16 + wanted) ≡ signed_at 0 head → length more < wanted → FrameRow maximum (head ++ more) EndOfInput
short_frame maximum head more wanted sixteen row size few =
    inr (inr (inl (record {
      passes = passes maximum head more sixteen row;
      short = omega (arith, ints, length-append head more, size_with head more sixteen, size, few);
      kind_is = refl;
    })))

cut_frame : (maximum : ℤ) (old mid new : Option (List ℕ)) (head : List ℕ) (wanted : ℕ) → Consumes old mid head → length head ≡ 16 → header_row maximum head ≡ None → pos (16 + wanted) ≡ signed_at 0 head
    → 0 < wanted → is_some new ≡ is_some old → RanOut mid new wanted → TakesRow EndOfInput maximum old new × IsEmptied new
cut_frame maximum None mid new head wanted p sixteen row size some tells r = ((head ++ [], tt, short_frame maximum head [] wanted sixteen row size some), emptied_untold new tells)
cut_frame maximum (Some xs) None new head wanted p sixteen row size some tells r = absurd p
cut_frame maximum (Some xs) (Some bytes) new head wanted p sixteen row size some tells r =
    let none : (Consumes (Some xs) new (head ++ bytes)) × IsEmptied new = subst (λ n. Consumes (Some xs) n (head ++ bytes) × IsEmptied n) (sym r.1) (p ∙ sym (append-nil (head ++ bytes)), refl) in
    ((head ++ bytes, none.0, short_frame maximum head bytes wanted sixteen row size r.0), none.1)

pub rest_stopped : (kind : ErrorKind) (maximum : ℤ) (old mid new : State) (head : List ℕ) (wanted : ℕ)
    → Consumes old.left mid.left head → Unstopped old mid → is_some mid.left ≡ is_some old.left → is_some new.left ≡ is_some mid.left → length head ≡ 16 → header_row maximum head ≡ None → pos (16 + wanted) ≡ signed_at 0 head → 0 < wanted
    → ReadStops kind mid new wanted → ReadRefused kind maximum old new
rest_stopped kind maximum old mid new head wanted p still told tells sixteen row size some s =
    stop_cases (λ k. ReadRefused k maximum old new) kind mid new wanted s
    (λ _ f. (fails_after old mid new still f.0, unfinished f.1))
    (λ _ e. let (row_of, empty) = cut_frame maximum old.left mid.left new.left head wanted p sixteen row size some (tells ∙ told) e.1 in
    (ends_after old mid new still e.0, row_of, empty))
    (λ _ m. (unstopped_on old mid new still m.0, started m.1))
  where
    started : ConsumesAtMost mid.left new.left wanted → TakesStarted maximum old.left new.left
    started c =
        (head ++ c.0, Consumes-trans old.left mid.left new.left head c.0 p c.2, inr (passes maximum head c.0 sixteen row, omega (arith, ints, length-append head c.0, size_with head c.0 sixteen, size, c.1)))

    unfinished : ConsumesFewer mid.left new.left wanted → TakesUnfinished maximum old.left new.left
    unfinished c =
        (head ++ c.0, Consumes-trans old.left mid.left new.left head c.0 p c.2, inr (passes maximum head c.0 sixteen row, omega (arith, ints, length-append head c.0, size_with head c.0 sixteen, size, c.1)))

-- the whole frame came, and is none
pub sections_refused : (maximum : ℤ) (old mid new : State) (head bytes : List ℕ) → Consumes old.left mid.left head → Consumes mid.left new.left bytes → Unstopped old new → length head ≡ 16
    → header_row maximum head ≡ None → pos (16 + length bytes) ≡ signed_at 0 head → NoFrame (head ++ bytes) → ReadRefused (InvalidResponse Sections) maximum old new
sections_refused maximum old mid new head bytes p q still sixteen row size none = (
  still,
  (
    head ++ bytes,
    Consumes-trans old.left mid.left new.left head bytes p q,
    inr (inr (inr (record {
      passes = passes maximum head bytes sixteen row;
      whole = omega (arith, ints, length-append head bytes, size_with head bytes sixteen, size);
      none = none;
      kind_is = refl;
    }))),
  ),
)

-- the whole frame came, and memory ran out
pub stopped_whole : (maximum : ℤ) (old mid new : State) (head bytes : List ℕ) → Consumes old.left mid.left head → Consumes mid.left new.left bytes → Unstopped old new → length head ≡ 16
    → header_row maximum head ≡ None → pos (16 + length bytes) ≡ signed_at 0 head → ReadRefused OutOfMemory maximum old new
stopped_whole maximum old mid new head bytes p q still sixteen row size =
    (still, (head ++ bytes, Consumes-trans old.left mid.left new.left head bytes p q, inr (passes maximum head bytes sixteen row, omega (arith, ints, length-append head bytes, size_with head bytes sixteen, size))))

-- ---- a frame stood there

-- where one stands, no row is called for
pub no_refused_frame : (kind : ErrorKind) (maximum : ℤ) (old new : State) (frame rest : List ℕ) (parts : Frame) → old.left ≡ Some (frame ++ rest) → IsFrame frame parts
    → pos (length frame) ≤ℤ maximum → ReadRefused kind maximum old new → IsUnreadable kind
no_refused_frame kind maximum old new frame rest parts is frame_is within r = by kind r
  where
    stop : (kind : ErrorKind) → TakesRow kind maximum old.left new.left → (kind ≡ EndOfInput → IsEmptied new.left) → ⊥
    stop kind (taken, consumes, row) ends = at new.left (rw is at consumes) ends
      where
        at : (new : Option (List ℕ)) → Consumes (Some (frame ++ rest)) new taken → (kind ≡ EndOfInput → IsEmptied new) → ⊥
        at None c e = c
        at (Some left) c e = row_no_frame maximum taken left frame rest kind parts row e frame_is within (sym c)

    by : (kind : ErrorKind) → ReadRefused kind maximum old new → IsUnreadable kind
    by ReadFault r = tt
    by OutOfMemory r = tt
    by EndOfInput r = stop EndOfInput r.1 (λ _. r.2)
    by (InvalidResponse fault) r = stop (InvalidResponse fault) r.1 (λ e. cc)
    by (InvalidArgument fault) r = stop (InvalidArgument fault) r.1 (λ e. cc)
    by (Command _) r = absurd r
    by (Authentication _) r = absurd r
    by IncompatibleServer r = absurd r
    by (Write _) r = absurd r
    by (InsertMany _) r = absurd r
    by WriteFault r = absurd r
    by (Callback _) r = absurd r
    by PasswordNotAscii r = absurd r

-- where one stands, it is the one that was taken
pub same_taken : (maximum : ℤ) (old new : State) (buffer : FrameBuffer) (frame rest : List ℕ) (parts : Frame) → old.left ≡ Some (frame ++ rest) → IsFrame frame parts → IsFrameTaken maximum old new buffer
    → HoldsFrame frame parts buffer × (new.left ≡ Some rest)
same_taken maximum old new buffer frame rest parts is frame_is taken = at new.left (rw is at taken.taken)
  where
    at : (new : Option (List ℕ)) → Consumes (Some (frame ++ rest)) new taken.frame → HoldsFrame frame parts buffer × (new ≡ Some rest)
    at None c = absurd c
    at (Some left) c =
        let (frames, both, rests) = one_frame taken.frame frame left rest taken.parts parts taken.holds.is_held.is_frame frame_is (sym c) in
        (subst (λ f. HoldsFrame f parts buffer) frames (subst (λ p. HoldsFrame taken.frame p buffer) both taken.holds), ap Some rests)

-- ---- the whole frame came

pub frame_taken : (maximum : ℤ) (before mid new : State) (head bytes : List ℕ) (rest : ℕ) (held : HeldFrame) (buffer : FrameBuffer) → Consumes before.left mid.left head → Consumes mid.left new.left bytes → Unstopped before new → length head ≡ 16
    → length bytes ≡ rest → pos (16 + rest) ≤ℤ maximum → IsHeld (head ++ bytes) held → buffer.last ≡ Some held → held_bytes buffer ≡ bytes → IsFrameTaken maximum before new buffer
frame_taken maximum before mid new head bytes rest held buffer p q still sixteen size within (parts, is_held) last bytes_are = record {
  frame = head ++ bytes;
  parts = parts;
  holds = record { held = held; last_is = last; is_held = is_held; bytes_are = bytes_are ∙ sym (drop_at head bytes 16 sixteen) };
  within = omega (arith, ints, length-append head bytes, sixteen, size, within);
  taken = Consumes-trans before.left mid.left new.left head bytes p q;
  unstopped = still;
}

-- memory for what was wanted stays within the maximum where the frame does
pub within_rest : (maximum : ℤ) (old new rest : ℕ) → pos (16 + rest) ≤ℤ maximum → new ≤ max old rest → (new ≤ old) ⊎ (pos new ≤ℤ maximum)
within_rest maximum old new rest within wanted = search arith

-- no more memory than a buffer has that stays within the maximum
pub stays_within : (maximum : ℤ) (start first : FrameBuffer) (memory : ℕ) → memory ≤ memory_of first → StaysWithin maximum start first → (memory ≤ memory_of start) ⊎ (pos memory ≤ℤ maximum)
stays_within maximum start first memory less (inl p) = inl (omega (arith, less, p))
stays_within maximum start first memory less (inr p) = inr (omega (arith, ints, less, p))

-- memory for what came behind other bytes
grows_later : (old mid new : State) (taken : List ℕ) (start first last : FrameBuffer) → memory_of first ≡ memory_of start → Consumes old.left mid.left taken → GrowsFor mid new first last → GrowsFor old new start last
grows_later old mid new taken start first last same p grows had left had_is left_is = by mid.left p grows
  where
    by : (there : Option (List ℕ)) → Consumes old.left there taken
        → ((h l : List ℕ) → there ≡ Some h → new.left ≡ Some l → memory_of last ≤ max (memory_of first) (piece_length + 2 * (length h - length l)))
        → memory_of last ≤ max (memory_of start) (piece_length + 2 * (length had - length left))
    by None q g = absurd (rw had_is at q)
    by (Some bytes) q g =
        let spelled : had ≡ taken ++ bytes = rw had_is at q in
        omega (arith, same, ap length spelled, length-append taken bytes, g bytes left refl left_is)

-- no more memory than a buffer of the same memory has, or than the maximum
stays_later : (maximum : ℤ) (start first last : FrameBuffer) → memory_of first ≡ memory_of start → StaysWithin maximum first last → StaysWithin maximum start last
stays_later maximum start first last same within = subst (λ memory. (memory_of last ≤ memory) ⊎ (pos (memory_of last) ≤ℤ maximum)) same within

-- the memory of what is read into a buffer, where other bytes were taken before
pub memory_later : (maximum : ℤ) (old mid new : State) (taken : List ℕ) (start first last : FrameBuffer) → memory_of first ≡ memory_of start → Consumes old.left mid.left taken → UsesMemory maximum mid new first last → UsesMemory maximum old new start last
memory_later maximum old mid new taken start first last same p uses = record {
  came = grows_later old mid new taken start first last same p uses.came;
  within = stays_later maximum start first last same uses.within;
  keeps = omega (arith, same, uses.keeps);
}

-- the same, where nothing is read into it
pub memory_same : (maximum : ℤ) (old new : State) (start last : FrameBuffer) → memory_of last ≡ memory_of start → UsesMemory maximum old new start last
memory_same maximum old new start last same = record { came = λ had left had_is left_is. omega (arith, same); within = inl (omega (arith, same)); keeps = omega (arith, same) }

-- ---- what the bytes that were taken say of those that were left

-- where some were taken there were some
pub more_came : (old new : Option (List ℕ)) (taken : List ℕ) → Consumes old new taken → 0 < length taken → IfSome old (λ bytes. 0 < length bytes)
more_came None new taken p some = tt
more_came (Some bytes) None taken p some = absurd p
more_came (Some bytes) (Some rest) taken p some = let spelled : bytes ≡ taken ++ rest = p in omega (arith, ap length spelled, length-append taken rest, some)

-- where a frame stood there were some
pub no_end : (old : Option (List ℕ)) (frame rest : List ℕ) (parts : Frame) → old ≡ Some (frame ++ rest) → IsFrame frame parts → IfSome old (λ bytes. bytes ≡ []) → ⊥
no_end None frame rest parts is frame_is none = absurd (cc)
no_end (Some bytes) frame rest parts is frame_is none =
    let same : bytes ≡ frame ++ rest = cc in
    omega (arith, ap length same, length-append frame rest, ap length none, least_frame frame parts frame_is)
