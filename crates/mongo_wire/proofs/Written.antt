-- What a write that was cut short has appended.
use Rattle.std.proofs.Common.{◌≡◌, ℕ, ℤ, FitsSigned, to_z, of_z, bit_and, ◌∷◌, ◌+◌, ◌<◌, get_or, flat_map, Option, Result, Ok, Err, OnOk, IsErrAnd, List, [], append-nil, ◌++◌, length, take, drop, sym, ap, ◌∙◌, subst, append_assoc, take-append-drop}
use Rattle.std.proofs.Math.Seq.{take-append_seam, take-append-add}
use Rattle.std.proofs.lemmas.Result.{err_from_is_err_and}
use Rattle.std.proofs.lemmas.Int.{to_z-of_z}
use Rattle.std.specs.Int.{w32}
use Rattle.std.proofs.KnownBytes.{Appends-trans}
use Rattle.std.specs.Io.KnownBytes.{Appends}
use Rattle.mongo_wire.proofs.Passed.{joined_more, joined_at}
use Rattle.mongo_wire.specs.Outside.{State, SinkCounts, WriteStops, AppendsFront, risen}
use Rattle.mongo_wire.specs.Frame.{int32, uint32, message_code, known_flags, sequence, section_bytes, sequence_bytes}
use Rattle.mongo_wire.specs.Measure.{documents_bytes, sequence_section, sequences_bytes}
use Rattle.mongo_wire.specs.declared.document_sequence.DocumentSequence.{DocumentSequence}
use Rattle.std.proofs.lemmas.List.Folds.{flat_map-map}
use Rattle.mongo_wire.specs.Message.{Fits, WriteCut, WriteRefused, written_frame, before_checksum, frame_length, sections_of, checksum_bytes, id_of, id_after}
use Rattle.mongo_wire.specs.declared.message.Message.{Message}
use Rattle.mongo_wire.specs.Error.{kind_of_sink_error}
use Rattle.mongo_wire.specs.declared.outside.SinkError.{SinkError}
use Rattle.mongo_wire.specs.declared.outside.SinkError.TheVariants.{Failed as SinkFailed, OutOfMemory as SinkMemory}
use Rattle.mongo_wire.specs.declared.error.ErrorKind.{ErrorKind}
use Rattle.mongo_wire.specs.declared.error.ErrorKind.TheVariants.{InvalidArgument, InvalidResponse, Command, Authentication, IncompatibleServer, Write, InsertMany, ReadFault, WriteFault, EndOfInput, Callback, PasswordNotAscii, OutOfMemory}

-- a front of the first part is a front of all
front_of_first : (old new : Option (List ℕ)) (first more : List ℕ) → AppendsFront old new first → AppendsFront old new (first ++ more)
front_of_first old new first more (n, p) =
    let apart : first ++ more ≡ take n first ++ (drop n first ++ more) = ap (λ l. l ++ more) (sym (take-append-drop n first)) ∙ append_assoc (take n first) (drop n first) more in
    let same : take (length (take n first)) (first ++ more) ≡ take n first = ap (take (length (take n first))) apart ∙ take-append_seam (take n first) (drop n first ++ more) in
    (length (take n first), subst (Appends old new) (sym same) p)

-- the first part, and then a front of the others
front_after : (old mid new : Option (List ℕ)) (first more : List ℕ) → Appends old mid first → AppendsFront mid new more → AppendsFront old new (first ++ more)
front_after old mid new first more p (n, q) =
    (length first + n, subst (Appends old new) (sym (take-append-add first more n)) (Appends-trans old mid new first (take n more) p q))

-- the kind of a refused write, of which there are two
pub write_cases : (P : ErrorKind → Type 0) (kind : ErrorKind) (old new : State) (bytes : List ℕ)
    → WriteStops kind old new bytes
    → (WriteStops WriteFault old new bytes → P WriteFault)
    → (WriteStops OutOfMemory old new bytes → P OutOfMemory)
    → P kind
write_cases P WriteFault _ _ _ s fault memory = fault s
write_cases P OutOfMemory _ _ _ s fault memory = memory s
write_cases P (InvalidArgument _) _ _ _ s fault memory = absurd s
write_cases P (InvalidResponse _) _ _ _ s fault memory = absurd s
write_cases P (Command _) _ _ _ s fault memory = absurd s
write_cases P (Authentication _) _ _ _ s fault memory = absurd s
write_cases P IncompatibleServer _ _ _ s fault memory = absurd s
write_cases P (Write _) _ _ _ s fault memory = absurd s
write_cases P (InsertMany _) _ _ _ s fault memory = absurd s
write_cases P ReadFault _ _ _ s fault memory = absurd s
write_cases P EndOfInput _ _ _ s fault memory = absurd s
write_cases P (Callback _) _ _ _ s fault memory = absurd s
write_cases P PasswordNotAscii _ _ _ s fault memory = absurd s

-- the first part was refused
pub cut_before : (kind : ErrorKind) (old new : State) (first more : List ℕ) → WriteStops kind old new first → WriteStops kind old new (first ++ more)
cut_before kind old new first more s =
    write_cases (λ k. WriteStops k old new (first ++ more)) kind old new first s
    (λ f. (f.0, front_of_first old.written new.written first more f.1)) (λ m. (m.0, front_of_first old.written new.written first more m.1))

-- a later part was refused
pub cut_after : (kind : ErrorKind) (old mid new : State) (first more : List ℕ)
    → Appends old.written mid.written first → mid.write_faults ≡ old.write_faults → WriteStops kind mid new more → WriteStops kind old new (first ++ more)
cut_after kind old mid new first more p still s =
    write_cases (λ k. WriteStops k old new (first ++ more)) kind mid new more s
    (λ f. (f.0 ∙ ap risen still, front_after old.written mid.written new.written first more p f.1)) (λ m. (m.0 ∙ still, front_after old.written mid.written new.written first more p m.1))

-- all was written, and the flush was refused
pub cut_at_end : (kind : ErrorKind) (old mid new : State) (all : List ℕ) → Appends old.written mid.written all → mid.write_faults ≡ old.write_faults → WriteStops kind mid new [] → WriteStops kind old new all
cut_at_end kind old mid new all p still s = subst (WriteStops kind old new) (append-nil all) (cut_after kind old mid new all [] p still s)

pub joined : (old one two three : Option (List ℕ)) (head start document : List ℕ) → Appends old one head → Appends one two start → Appends two three document
    → Appends old three (head ++ (start ++ document))
joined old one two three head start document p q r = Appends-trans old one three head (start ++ document) p (Appends-trans one two three start document q r)

pub always : {T E : Type 0} (r : Result T E) (P : Type 0) → P → OnOk r P
always (Ok _) P p = p
always (Err _) P p = tt

pub both_on_ok : {T E : Type 0} (r : Result T E) (P Q R : Type 0) → (P → Q → R) → OnOk r P → OnOk r Q → OnOk r R
both_on_ok (Ok _) P Q R f p q = f p q
both_on_ok (Err _) P Q R f p q = tt

-- the pieces that a sequence is written as are its section
pub section_spelled : (s : DocumentSequence) (start name documents : List ℕ) → start ≡ 1 ∷ uint32 (4 + length (sequence_bytes s)) → name ≡ s.identifier → documents ≡ documents_bytes s.documents
    → (start ++ (name ++ 0 ∷ [])) ++ documents ≡ sequence_section s
section_spelled s start name documents p q r =
    append_assoc start (name ++ 0 ∷ []) documents
    ∙ ap (λ w. start ++ w) (append_assoc name (0 ∷ []) documents)
    ∙ ap (λ w. w ++ (name ++ 0 ∷ documents)) p
    ∙ ap (λ w. (1 ∷ uint32 (4 + length (sequence_bytes s))) ++ (w ++ 0 ∷ documents)) q
    ∙ ap (λ w. (1 ∷ uint32 (4 + length (sequence_bytes s))) ++ (s.identifier ++ 0 ∷ w)) r

-- the sections, but for the first kind byte
sections_spelled : (m : Message) (document sequences : List ℕ) → document ≡ m.document_payload → sequences ≡ sequences_bytes m.document_sequences
    → 0 ∷ (document ++ sequences) ≡ flat_map section_bytes (sections_of m)
sections_spelled m document sequences p q =
    ap (λ w. 0 ∷ (w ++ sequences)) p
    ∙ ap (λ w. 0 ∷ (m.document_payload ++ w)) (q ∙ sym (flat_map-map section_bytes sequence m.document_sequences))

-- the pieces that are written before the checksum are the frame's bytes before it
pub frame_spelled : (id : ℤ) (size : ℕ) (m : Message) (head start document sequences : List ℕ) → FitsSigned w32 id → FitsSigned w32 m.response_to
    → head ≡ uint32 size ++ (int32 (to_z w32 (of_z w32 id)) ++ (int32 (to_z w32 (of_z w32 m.response_to)) ++ uint32 message_code))
    → start ≡ uint32 (bit_and m.flags.0 known_flags) ++ (0 ∷ []) → document ≡ m.document_payload → sequences ≡ sequences_bytes m.document_sequences → size ≡ frame_length m
    → (head ++ (start ++ document)) ++ sequences ≡ before_checksum id m
frame_spelled id size m head start document sequences id_fits to_fits p q r s counted =
    let word = bit_and m.flags.0 known_flags in
    let sections = flat_map section_bytes (sections_of m) in
    let fields = λ (n : ℕ) (i t : ℤ). uint32 n ++ (int32 i ++ (int32 t ++ uint32 message_code)) in
    let id_code = to_z w32 (of_z w32 id) in
    let to_code = to_z w32 (of_z w32 m.response_to) in
    ap (λ h. (h ++ (start ++ document)) ++ sequences) p
    ∙ ap (λ w. (fields size id_code to_code ++ (w ++ document)) ++ sequences) q
    ∙ ap (λ w. fields size id_code to_code ++ (uint32 word ++ w)) (sections_spelled m document sequences r s)
    ∙ ap (λ n. fields n id_code to_code ++ (uint32 word ++ sections)) counted
    ∙ ap (λ i. fields (frame_length m) i to_code ++ (uint32 word ++ sections)) (to_z-of_z w32 id id_fits)
    ∙ ap (λ t. fields (frame_length m) id t ++ (uint32 word ++ sections)) (to_z-of_z w32 m.response_to to_fits)

-- the bytes before the checksum were written, and then it
pub frame_written : (id : ℤ) (m : Message) (sum : Option ℕ) (old mid new : Option (List ℕ))
    → Appends old mid (before_checksum id m) → Appends mid new (checksum_bytes sum) → sum ≡ m.checksum → Appends old new (written_frame id m)
frame_written id m sum old mid new p q is =
    let last = subst (λ c. Appends mid new (checksum_bytes c)) is q in
    Appends-trans old mid new (before_checksum id m) (checksum_bytes m.checksum) p last

-- the bytes before the checksum were refused
pub frame_cut : (kind : ErrorKind) (id : ℤ) (m : Message) (old new : State) → WriteStops kind old new (before_checksum id m) → WriteStops kind old new (written_frame id m)
frame_cut kind id m old new s = cut_before kind old new (before_checksum id m) (checksum_bytes m.checksum) s

-- the checksum was refused after them
pub checksum_cut : (kind : ErrorKind) (id : ℤ) (m : Message) (sum : Option ℕ) (old mid new : State)
    → Appends old.written mid.written (before_checksum id m) → mid.write_faults ≡ old.write_faults → WriteStops kind mid new (checksum_bytes sum) → sum ≡ m.checksum → WriteStops kind old new (written_frame id m)
checksum_cut kind id m sum old mid new p still s is =
    let last = subst (λ c. WriteStops kind mid new (checksum_bytes c)) is s in
    cut_after kind old mid new (before_checksum id m) (checksum_bytes m.checksum) p still last

pub write_refused : (kind : ErrorKind) (maximum : ℤ) (m : Message) (old new : State) (before after : ℤ)
    → Fits maximum m → after ≡ id_after m.request_id before → WriteStops kind old new (written_frame (id_of m before) m) → WriteRefused kind maximum m old new before after
write_refused kind maximum m old new before after fits drawn s =
    write_cases (λ k. WriteRefused k maximum m old new before after) kind old new (written_frame (id_of m before) m) s
    (λ f. (f.0, cut f.1)) (λ m. (m.0, cut m.1))
  where
    cut : AppendsFront old.written new.written (written_frame (id_of m before) m) → WriteCut maximum m old new before after
    cut front = record { fits = fits; front = front; drawn = drawn }

-- items were written one after another, and then one of them was refused
pub cut_among : {X : Type 0} (f : X → List ℕ) (xs : List X) (i : ℕ) (x : X) → i < length xs → x ≡ get_or xs i x
    → (kind : ErrorKind) (old mid new : State) → Appends old.written mid.written (flat_map f (take i xs)) → mid.write_faults ≡ old.write_faults
    → WriteStops kind mid new (f x) → WriteStops kind old new (flat_map f xs)
cut_among f xs i x within at kind old mid new front still s =
    let before = flat_map f (take i xs) in
    let after = flat_map f (drop (i + 1) xs) in
    subst (WriteStops kind old new) (joined_at f xs i x within at) (cut_after kind old mid new before (f x ++ after) front still (cut_before kind mid new (f x) after s))

-- one more item was written
pub written_more : {X : Type 0} (f : X → List ℕ) (xs : List X) (i : ℕ) (x : X) → i < length xs → x ≡ get_or xs i x
    → (old mid new : Option (List ℕ)) → Appends old mid (flat_map f (take i xs)) → Appends mid new (f x) → Appends old new (flat_map f (take (i + 1) xs))
written_more f xs i x within at old mid new front one =
    subst (Appends old new) (sym (joined_more f xs i x within at)) (Appends-trans old mid new (flat_map f (take i xs)) (f x) front one)

-- what the exit of a `?` returns where the error stays as it is
pub error_passed_on : {T E : Type 0} (r : Result T E) (x : E) → IsErrAnd r (λ y. y ≡ x) → r ≡ Err x
error_passed_on r x p = let (e, is, same) = err_from_is_err_and r p in is ∙ ap Err same

-- a sink's fault as a cause
pub write_stopped : (fault : SinkError) (old new : State) (bytes : List ℕ)
    → SinkCounts fault old new → AppendsFront old.written new.written bytes → WriteStops (kind_of_sink_error fault) old new bytes
write_stopped SinkFailed old new bytes counts front = (counts, front)
write_stopped SinkMemory old new bytes counts front = (counts, front)
