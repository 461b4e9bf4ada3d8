-- A header and the content after it are a frame of the grammar, and a frame is nothing else.
use Rattle.std.proofs.Common.{of_z, ◌≡◌, ℕ, ℤ, pos, ◌+◌, ◌-◌, ◌≤◌, slice_range, Option, Some, List, [], ◌∷◌, ◌++◌, length, take, drop, refl, sym, ap, ◌∙◌, subst, bit_and, FitsSigned, arith}
use Rattle.std.specs.List.{AllByRecursion, flat_map}
use Rattle.std.specs.Int.{to_le_bytes, w32}
use Rattle.std.proofs.lemmas.List.{take-take, drop_at, drop-take, length-append, length-drop, length-take-le, append_assoc}
use Rattle.std.proofs.lemmas.List.Edits.{take-paste}
use Rattle.std.proofs.Math.Seq.{paste}
use Rattle.mongo_wire.specs.Buffer.{HoldsFrame}
use Rattle.mongo_wire.specs.declared.frame_buffer.FrameBuffer.{FrameBuffer}
use Rattle.std.proofs.lemmas.Int.{to_z_pos, of_z-to_z}
use Rattle.mongo_bson.specs.Framed.{IsFramed, maximum_length}
use Rattle.mongo_wire.specs.Frame.{Frame, Section, body, sequence, IsSection, section_bytes, bodies, sequences_of, int32, uint32, message_code, known_flags}
use Rattle.mongo_wire.specs.Header.{header_bytes, code_number}
use Rattle.mongo_wire.specs.Content.{IsAt, IsContentOf, HasNoContent}
use Rattle.mongo_wire.specs.Held.{NoFrame, IsHeld, LiesIn}
use Rattle.mongo_wire.specs.declared.header.Header.{Header}
use Rattle.mongo_wire.specs.declared.op_code.OpCode.{OpCode}
use Rattle.mongo_wire.specs.declared.op_code.OpCode.TheVariants.{Message}
use Rattle.mongo_wire.specs.declared.held_frame.HeldFrame.{HeldFrame}
use Rattle.mongo_wire.specs.declared.held_frame.Offsets.{Offsets}
use Rattle.mongo_wire.proofs.HeaderBack.{sixteen_bytes}

pub one_held_frame : (a b : HeldFrame) → Some a ≡ Some b → a ≡ b
one_held_frame a b e = cc

same_first : (b c : List ℕ) (bs cs : List (List ℕ)) → b ∷ bs ≡ c ∷ cs → b ≡ c
same_first b c bs cs e = cc

-- a body that sections hold is a document
pub framed_body : (ss : List Section) (b : List ℕ) (bs : List (List ℕ)) → AllByRecursion IsSection ss → bodies ss ≡ b ∷ bs → IsFramed b
framed_body [] b bs each e = absurd (omega (arith, ap length e))
framed_body (body d ∷ ss) b bs each e = subst IsFramed (same_first d b (bodies ss) bs e) each.0
framed_body (sequence s ∷ ss) b bs each e = framed_body ss b bs each.1 e

-- the parts of a frame lie in what follows its header
pub parts_lie : (header : Header) (bytes : List ℕ) (held : HeldFrame) → IsHeld (header_bytes header ++ bytes) held → LiesIn bytes held
parts_lie header bytes held (parts, is) =
    let cut : drop 16 (header_bytes header ++ bytes) ≡ bytes = drop_at (header_bytes header) bytes 16 (sixteen_bytes header) in
    let same : slice_range bytes held.offsets.body_start held.offsets.body_end ≡ parts.body = ap (λ b. slice_range b held.offsets.body_start held.offsets.body_end) (sym cut) ∙ is.body_at.is in
    record {
      body_ordered = is.body_at.ordered;
      body_within = subst (λ b. held.offsets.body_end ≤ length b) cut is.body_at.within;
      flags_before = is.sections_at.ordered;
      sections_within = subst (λ b. held.offsets.sections_end ≤ length b) cut is.sections_at.within;
      framed = subst IsFramed (sym same) (framed_body is.is_frame.sections parts.body [] is.is_frame.each is.is_frame.one_body);
    }

-- ---- the header

regroup : (a b c d z : List ℕ) → (a ++ (b ++ (c ++ d))) ++ z ≡ a ++ (b ++ (c ++ (d ++ z)))
regroup a b c d z = append_assoc a (b ++ (c ++ d)) z ∙ ap (λ l. a ++ l) (append_assoc b (c ++ d) z ∙ ap (λ l. b ++ l) (append_assoc c d z))

-- a length is spelled as one of a frame's bytes
length_spelled : (size : ℤ) (n : ℕ) → n ≤ maximum_length → size ≡ pos n → int32 size ≡ uint32 n
length_spelled size n fits is = ap int32 is ∙ ap (to_le_bytes w32) (ap (of_z w32) (sym (to_z_pos w32 n (omega (arith, fits)))) ∙ of_z-to_z w32 n (omega (arith, fits)))

size_fits : (size : ℤ) (n : ℕ) → FitsSigned w32 size → pos n ≡ size → n ≤ maximum_length
size_fits size n small is = omega (arith, (subst (FitsSigned w32) (sym is) small).sfits)

abbrev parts_by : Header → ℕ → List ℕ → List Section → Option ℕ → Frame
parts_by header word document sections sum = record {
  request_id = header.request_id;
  response_to = header.response_to;
  flags = bit_and word known_flags;
  body = document;
  sequences = sequences_of sections;
  checksum = sum;
}

abbrev with_length : Header → ℤ → OpCode → Header
with_length h size code = record { length = size; request_id = h.request_id; response_to = h.response_to; op_code = code }

made : (h : Header) (size : ℤ) → h.length ≡ size → h.op_code ≡ Message → h ≡ with_length h size Message
made h size p q = ap (λ z. with_length h z h.op_code) p ∙ ap (with_length h size) q

-- ---- what was found

pub frame_found : (header : Header) (bytes : List ℕ) (word : ℕ) (sum : Option ℕ) (offsets : Offsets) → FitsSigned w32 header.length → FitsSigned w32 header.request_id → FitsSigned w32 header.response_to
    → header.op_code ≡ Message → pos (16 + length bytes) ≡ header.length → IsContentOf bytes word sum offsets
    → IsHeld (header_bytes header ++ bytes) (record { header = header; word = word; checksum = sum; offsets = offsets })
frame_found header bytes word sum offsets length_small id_small response_small code size found =
    let head = header_bytes header in
    let frame = head ++ bytes in
    let counted : length frame ≡ 16 + length bytes = omega (arith, length-append head bytes, sixteen_bytes header) in
    let fits : 16 + length bytes ≤ maximum_length = size_fits header.length (16 + length bytes) length_small size in
    let size_is : header.length ≡ pos (length frame) = sym size ∙ ap pos (sym counted) in
    let is = found.is_content in
    let back : drop 16 frame ≡ bytes = drop_at head bytes 16 (sixteen_bytes header) in
    let spelled = regroup (int32 header.length) (int32 header.request_id) (int32 header.response_to) (int32 (code_number header.op_code)) bytes
    ∙ ap (λ a. a ++ (int32 header.request_id ++ (int32 header.response_to ++ (int32 (code_number header.op_code) ++ bytes)))) (length_spelled header.length (length frame) (rw counted fits) size_is)
    ∙ ap (λ c. uint32 (length frame) ++ (int32 header.request_id ++ (int32 header.response_to ++ (int32 (code_number c) ++ bytes)))) code
    ∙ ap (λ b. uint32 (length frame) ++ (int32 header.request_id ++ (int32 header.response_to ++ (uint32 message_code ++ b)))) is.spelled in (
      parts_by header word found.body found.sections sum,
      record {
        is_frame = record {
          word = word;
          sections = found.sections;
          tail = found.tail;
          spelled = spelled;
          length_fits = rw counted fits;
          id_fits = id_small;
          response_fits = response_small;
          word_fits = is.word_fits;
          flags_are = refl;
          each = is.each;
          one_body = is.one_body;
          sequences_are = refl;
          checksum_is = is.checksum_is;
        };
        header_is = made header (pos (length frame)) size_is code;
        flags_are = refl;
        checksum_is = refl;
        body_at = subst (λ b. IsAt b found.body offsets.body_start offsets.body_end) (sym back) found.body_at;
        sections_at = subst (λ b. IsAt b (flat_map section_bytes found.sections) 4 offsets.sections_end) (sym back) found.sections_at;
      },
    )

pub no_frame : (header : Header) (bytes : List ℕ) → HasNoContent bytes → NoFrame (header_bytes header ++ bytes)
no_frame header bytes none parts is =
    none is.word is.sections parts.body is.tail parts.checksum (record {
      word_fits = is.word_fits;
      each = is.each;
      one_body = is.one_body;
      checksum_is = is.checksum_is;
      spelled = sym (drop_at (header_bytes header) bytes 16 (sixteen_bytes header)) ∙ ap (drop 16) is.spelled;
    })

-- ---- the document that a buffer holds

pub body_lies : (buffer : FrameBuffer) (frame : List ℕ) (parts : Frame) (held : HeldFrame) → HoldsFrame frame parts buffer → buffer.last ≡ Some held → buffer.size ≤ length buffer.store.items
    → (held.offsets.body_start ≤ held.offsets.body_end) × (held.offsets.body_end ≤ length buffer.store.items) × (slice_range buffer.store.items held.offsets.body_start held.offsets.body_end ≡ parts.body)
body_lies buffer frame parts held holds is within =
    let s = held.offsets.body_start in
    let e = held.offsets.body_end in
    let h = buffer.size in
    let xs = buffer.store.items in
    let at : IsAt (drop 16 frame) parts.body s e = subst (λ f. IsAt (drop 16 frame) parts.body f.offsets.body_start f.offsets.body_end) (one_held_frame holds.held held (sym holds.last_is ∙ is)) holds.is_held.body_at in
    let size : length (take h xs) ≡ h = length-take-le h xs within in
    let inside : e ≤ h = omega (arith, at.within, ap length holds.bytes_are, size) in
    let count : s + (h - s) ≡ h = omega (arith, at.ordered, inside) in
    let cut : take (e - s) (drop s (take h xs)) ≡ take (e - s) (drop s xs) = ap (λ n. take (e - s) (drop s (take n xs))) (sym count) ∙ ap (take (e - s)) (drop-take s (h - s) xs) ∙ take-take (e - s) (h - s) (drop s xs) (omega (arith, at.ordered, inside)) in
    (at.ordered, omega (arith, inside, within), sym cut ∙ ap (λ b. take (e - s) (drop s b)) holds.bytes_are ∙ at.is)

-- a part that is copied to the front
pub pasted_front : (xs : List ℕ) (from to : ℕ) → from ≤ to → to ≤ length xs → take (to - from) (paste xs 0 (drop from xs) (to - from)) ≡ take (to - from) (drop from xs)
pasted_front xs from to ordered within =
    let count : to - from ≡ 0 + (to - from) = omega arith in
    ap (λ n. take n (paste xs 0 (drop from xs) (to - from))) count ∙ take-paste xs 0 (drop from xs) (to - from) (omega arith) (omega (arith, within, length-drop from xs))
