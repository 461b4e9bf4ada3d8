-- At most one frame stands at the front of bytes, and bytes that call for a row begin with none.
use Rattle.std.proofs.Common.{append-nil, ◌≡◌, ℕ, ℤ, pos, ◌≤ℤ◌, ◌<ℤ◌, ◌+◌, ◌^◌, ◌<◌, ◌≤◌, ◌⊎◌, inl, inr, Option, None, Some, List, [], ◌∷◌, ◌++◌, length, take, drop, get_or, refl, sym, ap, ◌∙◌, subst, arith}
use Rattle.std.specs.List.{AllByRecursion, flat_map}
use Rattle.std.specs.Int.{from_le_bytes, cast_signed, cast_unsigned, w32}
use Rattle.std.specs.Prelude.{FitsSigned, bit_and, int_lt, false}
use Rattle.std.proofs.lemmas.List.{take_at, length-append, append_assoc, append_cancel_left, drop-append-le, length-drop}
use Rattle.std.proofs.lemmas.Nat.{from_le_bytes-to_le_bytes_4}
use Rattle.std.proofs.lemmas.Int.{to_z-of_z, to_z_pos, ints}
use Rattle.std.proofs.Math.Facts.{Fits-of_z}
use Rattle.mongo_bson.specs.Framed.{IsFramed}
use Rattle.mongo_bson.proofs.Cstrings.{one_cstring}
use Rattle.mongo_bson.proofs.Sizes.{document_size, one_size, number_at_front}
use Rattle.mongo_wire.specs.Frame.{Frame, IsFrame, Section, body, sequence, IsSection, IsSequence, IsChecksum, section_bytes, sequence_bytes, bodies, sequences_of, int32, uint32, message_code, known_flags}
use Rattle.mongo_wire.specs.Header.{header_length, number_at, signed_at, op_code_of}
use Rattle.mongo_wire.specs.Rows.{FrameRow, ShortHeader, HeaderRow, ShortFrame, NoSections, header_row, length_row}
use Rattle.mongo_wire.specs.declared.op_code.OpCode.TheVariants as op_code
use Rattle.mongo_wire.specs.declared.error.ErrorKind.{ErrorKind}
use Rattle.mongo_wire.specs.declared.error.ErrorKind.TheVariants.{EndOfInput, InvalidResponse}
use Rattle.mongo_wire.specs.declared.fault.ResponseFault.TheVariants.{Sections}
use Rattle.mongo_wire.specs.declared.document_sequence.DocumentSequence.{DocumentSequence}

-- fronts of one length are one, and so is what follows them
pub same_front : (v w x y : List ℕ) → v ++ x ≡ w ++ y → length v ≡ length w → (v ≡ w) × (x ≡ y)
same_front v w x y e l =
    let front : v ≡ w = sym (take_at v x (length v) refl) ∙ ap (take (length v)) e ∙ take_at w y (length v) (sym l) in
    (front, append_cancel_left w x y (sym (ap (λ z. z ++ x) front) ∙ e))

-- ---- fields

pub same_number : (n m : ℕ) → n < 2 ^ 32 → m < 2 ^ 32 → uint32 n ≡ uint32 m → n ≡ m
same_number n m p q e = sym (from_le_bytes-to_le_bytes_4 n p) ∙ ap (from_le_bytes w32) e ∙ from_le_bytes-to_le_bytes_4 m q

-- ---- sections

-- at most one document stands at the front
pub one_framed : (b c x y : List ℕ) → IsFramed b → IsFramed c → b ++ x ≡ c ++ y → (b ≡ c) × (x ≡ y)
one_framed b c x y p q e = same_front b c x y e (one_size IsFramed (b ++ x) b c x y 0 (document_size (b ++ x)) p q refl e)

-- documents that fill bytes are determined
pub one_documents : (bs cs : List (List ℕ)) → AllByRecursion IsFramed bs → AllByRecursion IsFramed cs → flat_map (λ d. d) bs ≡ flat_map (λ d. d) cs → bs ≡ cs
one_documents [] [] p q e = refl
one_documents [] (c ∷ cs) p q e = absurd (omega (arith, ap length e, length-append c (flat_map (λ d. d) cs), q.0.least))
one_documents (b ∷ bs) [] p q e = absurd (omega (arith, ap length e, length-append b (flat_map (λ d. d) bs), p.0.least))
one_documents (b ∷ bs) (c ∷ cs) p q e =
    let one = one_framed b c (flat_map (λ d. d) bs) (flat_map (λ d. d) cs) p.0 q.0 e in
    let rest = one_documents bs cs p.1 q.1 one.1 in
    ap (λ z. z ∷ bs) one.0 ∙ ap (λ z. c ∷ z) rest

-- a number and what it counts
pub counted : (n m : ℕ) (a b x y : List ℕ) → n < 2 ^ 32 → m < 2 ^ 32 → (uint32 n ++ a) ++ x ≡ (uint32 m ++ b) ++ y → (n ≡ m) × (a ++ x ≡ b ++ y)
counted n m a b x y p q e =
    let apart = same_front (uint32 n) (uint32 m) (a ++ x) (b ++ y) (sym (append_assoc (uint32 n) a x) ∙ e ∙ append_assoc (uint32 m) b y) refl in
    (same_number n m p q apart.0, apart.1)

abbrev pub sequence_made_of : List ℕ → List (List ℕ) → DocumentSequence
sequence_made_of identifier documents = record { identifier = identifier; documents = documents }

same_made : (a b : List ℕ) (c d : List (List ℕ)) → a ≡ b → c ≡ d → sequence_made_of a c ≡ sequence_made_of b d
same_made a b c d p q = ap (λ z. sequence_made_of z c) p ∙ ap (λ z. sequence_made_of b z) q

-- at most one sequence stands at the front
pub one_sequence : (s t : DocumentSequence) (x y : List ℕ) → IsSequence s → IsSequence t
    → (uint32 (4 + length (sequence_bytes s)) ++ sequence_bytes s) ++ x ≡ (uint32 (4 + length (sequence_bytes t)) ++ sequence_bytes t) ++ y → (s ≡ t) × (x ≡ y)
one_sequence s t x y p q e =
    let sizes = counted (4 + length (sequence_bytes s)) (4 + length (sequence_bytes t)) (sequence_bytes s) (sequence_bytes t) x y (omega (arith, p.size)) (omega (arith, q.size)) e in
    let size : length (sequence_bytes s) ≡ length (sequence_bytes t) = omega (arith, sizes.0) in
    let apart = same_front (sequence_bytes s) (sequence_bytes t) x y sizes.1 size in
    let texts = one_cstring s.identifier t.identifier (flat_map (λ d. d) s.documents) (flat_map (λ d. d) t.documents) p.name.without_zero q.name.without_zero apart.0 in
    (same_made s.identifier t.identifier s.documents t.documents texts.0 (one_documents s.documents t.documents p.each q.each texts.1), apart.1)

-- at most one section stands at the front
pub one_section : (s t : Section) (x y : List ℕ) → IsSection s → IsSection t → section_bytes s ++ x ≡ section_bytes t ++ y → (s ≡ t) × (x ≡ y)
one_section (body b) (body c) x y p q e =
    let one = one_framed b c x y p q (ap (drop 1) e) in
    (ap body one.0, one.1)
one_section (body b) (sequence t) x y p q e = absurd (omega (arith, ap (λ l. get_or l 0 9) e))
one_section (sequence s) (body c) x y p q e = absurd (omega (arith, ap (λ l. get_or l 0 9) e))
one_section (sequence s) (sequence t) x y p q e =
    let one = one_sequence s t x y p q (ap (drop 1) e) in
    (ap sequence one.0, one.1)

-- a section has at least 6 bytes
pub least_section : (s : Section) → IsSection s → 6 ≤ length (section_bytes s)
least_section (body b) p = omega (arith, p.least)
least_section (sequence s) p = omega (arith, length-append s.identifier (0 ∷ flat_map (λ d. d) s.documents))

-- sections and a tail too short for one are determined
pub one_sections : (ss ts : List Section) (x y : List ℕ) → AllByRecursion IsSection ss → AllByRecursion IsSection ts → length x ≤ 4 → length y ≤ 4
    → flat_map section_bytes ss ++ x ≡ flat_map section_bytes ts ++ y → (ss ≡ ts) × (x ≡ y)
one_sections [] [] x y p q a b e = (refl, e)
one_sections [] (t ∷ ts) x y p q a b e =
    absurd (omega (arith, ap length e, length-append (section_bytes t ++ flat_map section_bytes ts) y, length-append (section_bytes t) (flat_map section_bytes ts), least_section t q.0))
one_sections (s ∷ ss) [] x y p q a b e =
    absurd (omega (arith, ap length e, length-append (section_bytes s ++ flat_map section_bytes ss) x, length-append (section_bytes s) (flat_map section_bytes ss), least_section s p.0))
one_sections (s ∷ ss) (t ∷ ts) x y p q a b e =
    let more = flat_map section_bytes ss in
    let later = flat_map section_bytes ts in
    let one = one_section s t (more ++ x) (later ++ y) p.0 q.0 (sym (append_assoc (section_bytes s) more x) ∙ e ∙ append_assoc (section_bytes t) later y) in
    let rest = one_sections ss ts x y p.1 q.1 a b one.1 in
    (ap (λ z. z ∷ ss) one.0 ∙ ap (λ z. t ∷ z) rest.0, rest.1)

-- ---- frames

same_signed : (i j : ℤ) → FitsSigned w32 i → FitsSigned w32 j → int32 i ≡ int32 j → i ≡ j
same_signed i j p q e =
    let fits = λ (z : ℤ) (f : FitsSigned w32 z). (Fits-of_z {w = w32} {z = z} f).fits in
    let bits = same_number (cast_unsigned w32 i) (cast_unsigned w32 j) (fits i p) (fits j q) e in
    sym (to_z-of_z w32 i p) ∙ ap (cast_signed w32) bits ∙ to_z-of_z w32 j q

-- a frame's fields stand one after another
fields : (a b c d e z f g h i j y : List ℕ) → length a ≡ length f → length b ≡ length g → length c ≡ length h → length d ≡ length i → length e ≡ length j
    → a ++ (b ++ (c ++ (d ++ (e ++ z)))) ≡ f ++ (g ++ (h ++ (i ++ (j ++ y)))) → (b ≡ g) × (c ≡ h) × (e ≡ j) × (z ≡ y)
fields a b c d e z f g h i j y k l m n o is =
    let one = same_front a f (b ++ (c ++ (d ++ (e ++ z)))) (g ++ (h ++ (i ++ (j ++ y)))) is k in
    let two = same_front b g (c ++ (d ++ (e ++ z))) (h ++ (i ++ (j ++ y))) one.1 l in
    let three = same_front c h (d ++ (e ++ z)) (i ++ (j ++ y)) two.1 m in
    let four = same_front d i (e ++ z) (j ++ y) three.1 n in
    let five = same_front e j z y four.1 o in
    (two.0, three.0, five.0, five.1)

-- a checksum's tail is shorter than a section, and tells it
pub short_tail : (word : ℕ) (tail : List ℕ) (sum : Option ℕ) → IsChecksum word tail sum → length tail ≤ 4
short_tail word tail None p = omega (arith, ap length p)
short_tail word tail (Some sum) p = omega (arith, ap length p.2)

one_checksum : (word other : ℕ) (tail : List ℕ) (sum also : Option ℕ) → IsChecksum word tail sum → IsChecksum other tail also → sum ≡ also
one_checksum word other tail None None p q = refl
one_checksum word other tail None (Some m) p q = absurd (omega (arith, ap length (sym p ∙ q.2)))
one_checksum word other tail (Some n) None p q = absurd (omega (arith, ap length (sym q ∙ p.2)))
one_checksum word other tail (Some n) (Some m) p q = ap Some (same_number n m p.1 q.1 (sym p.2 ∙ q.2))

abbrev pub frame_of : ℤ → ℤ → ℕ → List ℕ → List DocumentSequence → Option ℕ → Frame
frame_of id to flags document sequences sum = record { request_id = id; response_to = to; flags = flags; body = document; sequences = sequences; checksum = sum }

pub same_parts : (i j to re : ℤ) (f g : ℕ) (b c : List ℕ) (s t : List DocumentSequence) (x y : Option ℕ) → i ≡ j → to ≡ re → f ≡ g → b ≡ c → s ≡ t → x ≡ y
    → frame_of i to f b s x ≡ frame_of j re g c t y
same_parts i j to re f g b c s t x y p q r u v w =
    ap (λ z. frame_of z to f b s x) p ∙ ap (λ z. frame_of j z f b s x) q ∙ ap (λ z. frame_of j re z b s x) r ∙ ap (λ z. frame_of j re g z s x) u ∙ ap (λ z. frame_of j re g c z x) v ∙ ap (λ z. frame_of j re g c t z) w

same_head : (b c : List ℕ) → b ∷ [] ≡ c ∷ [] → b ≡ c
same_head b c e = cc

-- what follows a frame's length field
abbrev after_length : (f : List ℕ) (parts : Frame) → IsFrame f parts → List ℕ
after_length f parts p = int32 parts.request_id ++ (int32 parts.response_to ++ (uint32 message_code ++ (uint32 p.word ++ (flat_map section_bytes p.sections ++ p.tail))))

-- one frame has one list of parts
pub one_frame_parts : (f : List ℕ) (p q : Frame) → IsFrame f p → IsFrame f q → p ≡ q
one_frame_parts f p q is also =
    let apart = fields (uint32 (length f)) (int32 p.request_id) (int32 p.response_to) (uint32 message_code) (uint32 is.word) (flat_map section_bytes is.sections ++ is.tail)
    (uint32 (length f)) (int32 q.request_id) (int32 q.response_to) (uint32 message_code) (uint32 also.word) (flat_map section_bytes also.sections ++ also.tail)
    refl refl refl refl refl (sym is.spelled ∙ also.spelled) in
    let word : is.word ≡ also.word = same_number is.word also.word is.word_fits also.word_fits apart.2 in
    let sections = one_sections is.sections also.sections is.tail also.tail is.each also.each (short_tail is.word is.tail p.checksum is.checksum_is) (short_tail also.word also.tail q.checksum also.checksum_is) apart.3 in
    same_parts p.request_id q.request_id p.response_to q.response_to p.flags q.flags p.body q.body p.sequences q.sequences p.checksum q.checksum
    (same_signed p.request_id q.request_id is.id_fits also.id_fits apart.0)
    (same_signed p.response_to q.response_to is.response_fits also.response_fits apart.1)
    (is.flags_are ∙ ap (λ w. bit_and w known_flags) word ∙ sym also.flags_are)
    (same_head p.body q.body (sym is.one_body ∙ ap bodies sections.0 ∙ also.one_body))
    (sym is.sequences_are ∙ ap sequences_of sections.0 ∙ also.sequences_are)
    (one_checksum is.word also.word also.tail p.checksum q.checksum (subst (λ t. IsChecksum is.word t p.checksum) sections.1 is.checksum_is) also.checksum_is)

-- at most one frame stands at the front
pub one_frame : (f g rest more : List ℕ) (p q : Frame) → IsFrame f p → IsFrame g q → f ++ rest ≡ g ++ more → (f ≡ g) × (p ≡ q) × (rest ≡ more)
one_frame f g rest more p q is also e =
    let sizes = counted (length f) (length g) (after_length f p is) (after_length g q also) rest more (omega (arith, is.length_fits)) (omega (arith, also.length_fits))
    (sym (ap (λ l. l ++ rest) is.spelled) ∙ e ∙ ap (λ l. l ++ more) also.spelled) in
    let apart = same_front f g rest more e sizes.0 in
    (apart.0, one_frame_parts g p q (subst (λ l. IsFrame l p) apart.0 is) also, apart.1)

-- no frame is a front of another
pub no_front : (frame more : List ℕ) (parts other : Frame) → IsFrame frame parts → IsFrame (frame ++ more) other → more ≡ []
no_front frame more parts other is also = (one_frame frame (frame ++ more) more [] parts other is also (sym (append-nil (frame ++ more)))).2

-- ---- headers

-- a number lies in its four bytes
pub number_in_four_bytes : (at : ℕ) (xs ys : List ℕ) → at + 4 ≤ length xs → number_at at (xs ++ ys) ≡ number_at at xs
number_in_four_bytes at xs ys p = ap (from_le_bytes w32) (drop-append-le at xs ys (omega arith)) ∙ number_at_front (drop at xs) ys (omega (arith, length-drop at xs))

pub signed_in : (at : ℕ) (xs ys : List ℕ) → at + 4 ≤ length xs → signed_at at (xs ++ ys) ≡ signed_at at xs
signed_in at xs ys p = ap (cast_signed w32) (number_in_four_bytes at xs ys p)

-- a header's row lies in its 16 bytes
pub row_in : (maximum : ℤ) (xs ys : List ℕ) → 16 ≤ length xs → header_row maximum (xs ++ ys) ≡ header_row maximum xs
row_in maximum xs ys p =
    let size = signed_in 0 xs ys (omega arith) in
    let code = signed_in 12 xs ys (omega arith) in
    ap (λ z. length_row maximum z (op_code_of (signed_at 12 (xs ++ ys))) (signed_at 12 (xs ++ ys))) size ∙ ap (λ z. length_row maximum (signed_at 0 xs) (op_code_of z) z) code

pub frame_tells_length : (f : List ℕ) (p : Frame) → IsFrame f p → signed_at 0 f ≡ pos (length f)
frame_tells_length f p is =
    let number : number_at 0 f ≡ length f = ap (number_at 0) is.spelled ∙ number_at_front (uint32 (length f)) (after_length f p is) (omega arith) ∙ from_le_bytes-to_le_bytes_4 (length f) (omega (arith, is.length_fits)) in
    ap (cast_signed w32) number ∙ to_z_pos w32 (length f) (omega (arith, is.length_fits))

pub frame_code : (f : List ℕ) (p : Frame) → IsFrame f p → signed_at 12 f ≡ pos message_code
frame_code f p is = ap (signed_at 12) is.spelled

pub least_frame : (f : List ℕ) (p : Frame) → IsFrame f p → 20 ≤ length f
least_frame f p is = omega (arith, ap length is.spelled)

no_row : (maximum size : ℤ) → pos header_length ≤ℤ size → size ≤ℤ maximum → length_row maximum size (Some op_code.Message) (pos message_code) ≡ None
no_row maximum size p q =
    let long : int_lt maximum size ≡ false = grind (arith, ints) in
    let short : int_lt size (pos header_length) ≡ false = grind (arith, ints) in
    rw (long, short) refl

pub frame_row : (maximum : ℤ) (f : List ℕ) (p : Frame) → IsFrame f p → pos (length f) ≤ℤ maximum → header_row maximum f ≡ None
frame_row maximum f p is within =
    ap (λ z. length_row maximum (signed_at 0 f) (op_code_of z) z) (frame_code f p is) ∙ ap (λ z. length_row maximum z (Some op_code.Message) (pos message_code)) (frame_tells_length f p is)
    ∙ no_row maximum (pos (length f)) (omega (arith, ints, least_frame f p is)) within

-- ---- rows

short_no_frame : (taken rest frame more : List ℕ) (kind : ErrorKind) (parts : Frame) → ShortHeader taken kind → (kind ≡ EndOfInput → rest ≡ []) → IsFrame frame parts → taken ++ rest ≡ frame ++ more → ⊥
short_no_frame taken rest frame more kind parts row ends is e =
    omega (arith, ap length e, length-append taken rest, length-append frame more, ap length (ends row.kind_is), row.short, least_frame frame parts is)

header_no_frame : (maximum : ℤ) (taken rest frame more : List ℕ) (kind : ErrorKind) (parts : Frame) → HeaderRow maximum taken kind → IsFrame frame parts → pos (length frame) ≤ℤ maximum → taken ++ rest ≡ frame ++ more → ⊥
header_no_frame maximum taken rest frame more kind parts row is within e =
    let none : Some kind ≡ None = sym row.row ∙ sym (row_in maximum taken rest (omega (arith, row.header))) ∙ ap (header_row maximum) e ∙ row_in maximum frame more (omega (arith, least_frame frame parts is)) ∙ frame_row maximum frame parts is within in
    cc

-- both have the frame's length in their header
same_size : (taken rest frame more : List ℕ) (parts : Frame) → 16 ≤ length taken → IsFrame frame parts → taken ++ rest ≡ frame ++ more → signed_at 0 taken ≡ pos (length frame)
same_size taken rest frame more parts p is e =
    sym (signed_in 0 taken rest (omega arith)) ∙ ap (signed_at 0) e ∙ signed_in 0 frame more (omega (arith, least_frame frame parts is)) ∙ frame_tells_length frame parts is

cut_no_frame : (maximum : ℤ) (taken rest frame more : List ℕ) (kind : ErrorKind) (parts : Frame) → ShortFrame maximum taken kind → (kind ≡ EndOfInput → rest ≡ []) → IsFrame frame parts → taken ++ rest ≡ frame ++ more → ⊥
cut_no_frame maximum taken rest frame more kind parts row ends is e =
    omega (arith, ints, ap length e, length-append taken rest, length-append frame more, ap length (ends row.kind_is), row.short, same_size taken rest frame more parts row.passes.whole is e)

other_no_frame : (maximum : ℤ) (taken rest frame more : List ℕ) (kind : ErrorKind) (parts : Frame) → NoSections maximum taken kind → IsFrame frame parts → taken ++ rest ≡ frame ++ more → ⊥
other_no_frame maximum taken rest frame more kind parts row is e =
    let size : length taken ≡ length frame = omega (arith, ints, row.whole, same_size taken rest frame more parts row.passes.whole is e) in
    let front = same_front taken frame rest more e size in
    row.none parts (subst (λ l. IsFrame l parts) (sym front.0) is)

-- bytes that call for a row begin with no frame within the maximum
pub row_no_frame : (maximum : ℤ) (taken rest frame more : List ℕ) (kind : ErrorKind) (parts : Frame) → FrameRow maximum taken kind → (kind ≡ EndOfInput → rest ≡ [])
    → IsFrame frame parts → pos (length frame) ≤ℤ maximum → taken ++ rest ≡ frame ++ more → ⊥
row_no_frame maximum taken rest frame more kind parts row ends is within e =
    elim row [
      | inl a ↦ short_no_frame taken rest frame more kind parts a ends is e
      | inr b ↦ elim b [
        | inl a ↦ header_no_frame maximum taken rest frame more kind parts a is within e
        | inr c ↦ elim c [
          | inl a ↦ cut_no_frame maximum taken rest frame more kind parts a ends is e
          | inr d ↦ other_no_frame maximum taken rest frame more kind parts d is e
        ]
      ]
    ]

-- the row that bytes call for, and what of them it takes
record OnShort (b taken : List ℕ) (kind : ErrorKind) : Type 0 where
  all : taken ≡ b
  few : length b < 16
  kind_is : kind ≡ EndOfInput

record OnHeader (maximum : ℤ) (b taken : List ℕ) (kind : ErrorKind) : Type 0 where
  front : taken ≡ take 16 b
  many : 16 ≤ length b
  row : header_row maximum b ≡ Some kind

record OnCut (maximum : ℤ) (b taken : List ℕ) (kind : ErrorKind) : Type 0 where
  all : taken ≡ b
  many : 16 ≤ length b
  row : header_row maximum b ≡ None
  few : pos (length b) <ℤ signed_at 0 b
  kind_is : kind ≡ EndOfInput

record OnNone (maximum : ℤ) (b taken : List ℕ) (kind : ErrorKind) : Type 0 where
  front : taken ≡ take (length taken) b
  many : 16 ≤ length b
  row : header_row maximum b ≡ None
  whole : length taken ≤ length b
  size : pos (length taken) ≡ signed_at 0 b
  kind_is : kind ≡ InvalidResponse Sections

abbrev On : ℤ → List ℕ → List ℕ → ErrorKind → Type 0
On maximum b taken kind = OnShort b taken kind ⊎ (OnHeader maximum b taken kind ⊎ (OnCut maximum b taken kind ⊎ OnNone maximum b taken kind))

no_more : (taken rest : List ℕ) → rest ≡ [] → taken ≡ taken ++ rest
no_more taken rest e = sym (append-nil taken) ∙ ap (λ l. taken ++ l) (sym e)

on_all : (maximum : ℤ) (taken rest : List ℕ) (kind : ErrorKind) → FrameRow maximum taken kind → (kind ≡ EndOfInput → rest ≡ []) → On maximum (taken ++ rest) taken kind
on_all maximum taken rest kind row ends =
    let whole = length-append taken rest in
    elim row [
      | inl a ↦ inl (record { all = no_more taken rest (ends a.kind_is); few = omega (arith, a.short, whole, ap length (ends a.kind_is)); kind_is = a.kind_is })
      | inr b ↦ elim b [
        | inl a ↦ inr (inl (record { front = sym (take_at taken rest 16 a.header); many = omega (arith, a.header, whole); row = row_in maximum taken rest (omega (arith, a.header)) ∙ a.row }))
        | inr c ↦ elim c [
          | inl a ↦ inr (inr (inl (record {
            all = no_more taken rest (ends a.kind_is);
            many = omega (arith, a.passes.whole, whole);
            row = row_in maximum taken rest a.passes.whole ∙ a.passes.good;
            few = omega (arith, ints, a.short, whole, ap length (ends a.kind_is), signed_in 0 taken rest (omega (arith, a.passes.whole)));
            kind_is = a.kind_is;
          })))
          | inr d ↦ inr (inr (inr (record {
            front = sym (take_at taken rest (length taken) refl);
            many = omega (arith, d.passes.whole, whole);
            row = row_in maximum taken rest d.passes.whole ∙ d.passes.good;
            whole = omega (arith, whole);
            size = d.whole ∙ sym (signed_in 0 taken rest (omega (arith, d.passes.whole)));
            kind_is = d.kind_is;
          })))
        ]
      ]
    ]

-- at most one row
one_kind : (a b : ErrorKind) → Some a ≡ Some b → a ≡ b
one_kind a b e = cc

no_kind : (a : ErrorKind) → Some a ≡ None → ⊥
no_kind a e = cc

one_on : (maximum : ℤ) (b t u : List ℕ) (k l : ErrorKind) → On maximum b t k → On maximum b u l → (k ≡ l) × (t ≡ u)
one_on maximum b t u k l p q =
    elim p [
      | inl x ↦ elim q [
        | inl y ↦ (x.kind_is ∙ sym y.kind_is, x.all ∙ sym y.all)
        | inr v ↦ elim v [ inl y ↦ absurd (omega (arith, x.few, y.many)) | inr w ↦ elim w [ inl y ↦ absurd (omega (arith, x.few, y.many)) | inr y ↦ absurd (omega (arith, x.few, y.many)) ] ]
      ]
      | inr p2 ↦ elim p2 [
        | inl x ↦ elim q [
          | inl y ↦ absurd (omega (arith, y.few, x.many))
          | inr v ↦ elim v [
            | inl y ↦ (one_kind k l (sym x.row ∙ y.row), x.front ∙ sym y.front)
            | inr w ↦ elim w [ inl y ↦ absurd (no_kind k (sym x.row ∙ y.row)) | inr y ↦ absurd (no_kind k (sym x.row ∙ y.row)) ]
          ]
        ]
        | inr p3 ↦ elim p3 [
          | inl x ↦ elim q [
            | inl y ↦ absurd (omega (arith, y.few, x.many))
            | inr v ↦ elim v [
              | inl y ↦ absurd (no_kind l (sym y.row ∙ x.row))
              | inr w ↦ elim w [ inl y ↦ (x.kind_is ∙ sym y.kind_is, x.all ∙ sym y.all) | inr y ↦ absurd (omega (arith, ints, x.few, y.whole, y.size)) ]
            ]
          ]
          | inr x ↦ elim q [
            | inl y ↦ absurd (omega (arith, y.few, x.many))
            | inr v ↦ elim v [
              | inl y ↦ absurd (no_kind l (sym y.row ∙ x.row))
              | inr w ↦ elim w [
                | inl y ↦ absurd (omega (arith, ints, y.few, x.whole, x.size))
                | inr y ↦ let size : length t ≡ length u = omega (arith, ints, x.size, y.size) in (x.kind_is ∙ sym y.kind_is, x.front ∙ ap (λ n. take n b) size ∙ sym y.front)
              ]
            ]
          ]
        ]
      ]
    ]

-- bytes call for at most one row, and it takes the same of them
pub one_frame_row : (maximum : ℤ) (taken rest other more : List ℕ) (kind also : ErrorKind) → FrameRow maximum taken kind → FrameRow maximum other also → (kind ≡ EndOfInput → rest ≡ [])
    → (also ≡ EndOfInput → more ≡ []) → taken ++ rest ≡ other ++ more → (kind ≡ also) × (taken ≡ other)
one_frame_row maximum taken rest other more kind also p q ends stops e =
    one_on maximum (other ++ more) taken other kind also (subst (λ b. On maximum b taken kind) e (on_all maximum taken rest kind p ends)) (on_all maximum other more also q stops)
