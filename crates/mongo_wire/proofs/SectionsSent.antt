-- What sections that are handed in are written as.
use Rattle.std.proofs.Common.{◌≡◌, ℕ, ℤ, ◌+◌, ◌^◌, ◌<◌, ◌≤◌, None, List, [], ◌++◌, length, flat_map, to_z, of_z, refl, sym, ap, ◌∙◌, bit_and, FitsSigned, append-nil, arith}
use Rattle.std.proofs.lemmas.Int.{to_z-of_z}
use Rattle.std.proofs.lemmas.Nat.{and_assoc, and_le_r}
use Rattle.std.specs.Int.{w32}
use Rattle.mongo_bson.specs.Framed.{maximum_length}
use Rattle.mongo_wire.specs.Outside.{State, WriteStops}
use Rattle.mongo_wire.specs.Frame.{Frame, section_bytes, sequences_of, int32, uint32, message_code, known_flags, IsFrame}
use Rattle.mongo_wire.specs.Sending.{unsummed_flags, sections_frame, SectionsFit, SectionsRefused, IsFrameOfSections}
use Rattle.mongo_wire.specs.declared.error.ErrorKind.{ErrorKind}
use Rattle.mongo_wire.proofs.Written.{write_cases}

pub sections_spelled : (id to : ℤ) (flags size : ℕ) (head word sections : List ℕ) → FitsSigned w32 id → FitsSigned w32 to
    → head ≡ uint32 size ++ (int32 (to_z w32 (of_z w32 id)) ++ (int32 (to_z w32 (of_z w32 to)) ++ uint32 message_code))
    → word ≡ uint32 (bit_and flags unsummed_flags) → size ≡ 20 + length sections → head ++ (word ++ sections) ≡ sections_frame id to flags sections
sections_spelled id to flags size head word sections id_fits to_fits p q counted =
    let rest = uint32 (bit_and flags unsummed_flags) ++ sections in
    let fields = λ (n : ℕ) (i t : ℤ). uint32 n ++ (int32 i ++ (int32 t ++ uint32 message_code)) in
    ap (λ h. h ++ (word ++ sections)) p
    ∙ ap (λ w. fields size (to_z w32 (of_z w32 id)) (to_z w32 (of_z w32 to)) ++ (w ++ sections)) q
    ∙ ap (λ n. fields n (to_z w32 (of_z w32 id)) (to_z w32 (of_z w32 to)) ++ rest) counted
    ∙ ap (λ i. fields (20 + length sections) i (to_z w32 (of_z w32 to)) ++ rest) (to_z-of_z w32 id id_fits)
    ∙ ap (λ t. fields (20 + length sections) id t ++ rest) (to_z-of_z w32 to to_fits)

pub sections_unsent : (kind : ErrorKind) (maximum : ℤ) (sections frame : List ℕ) (old new : State) → SectionsFit maximum sections → WriteStops kind old new frame → SectionsRefused kind maximum sections frame old new
sections_unsent kind maximum sections frame old new fits s =
    write_cases (λ k. SectionsRefused k maximum sections frame old new) kind old new frame s (λ f. (f.0, fits, f.1)) (λ m. (m.0, fits, m.1))

-- the flags that are written are known ones
known_again : (flags : ℕ) → bit_and (bit_and flags unsummed_flags) known_flags ≡ bit_and flags unsummed_flags
known_again flags = and_assoc known_flags flags unsummed_flags

pub sections_are_frame : (id to : ℤ) (flags : ℕ) (bytes : List ℕ) → FitsSigned w32 id → FitsSigned w32 to → 20 + length bytes ≤ maximum_length → IsFrameOfSections id to flags bytes
sections_are_frame id to flags bytes id_fits to_fits short sections body spelled each one_body =
    let word = bit_and flags unsummed_flags in
    let size : length (sections_frame id to flags bytes) ≡ 20 + length bytes = omega arith in
    let word_fits : word < 2 ^ 32 = omega (arith, and_le_r flags unsummed_flags) in
    let parts : Frame = record { request_id = id; response_to = to; flags = word; body = body; sequences = sequences_of sections; checksum = None } in
    let is_frame : IsFrame (sections_frame id to flags bytes) parts = record {
      word = word;
      sections = sections;
      tail = [];
      spelled = ap (λ n. uint32 n ++ (int32 id ++ (int32 to ++ (uint32 message_code ++ (uint32 word ++ bytes))))) (sym size)
          ∙ ap (λ r. uint32 (length (sections_frame id to flags bytes)) ++ (int32 id ++ (int32 to ++ (uint32 message_code ++ (uint32 word ++ r))))) (spelled ∙ sym (append-nil (flat_map section_bytes sections)));
      length_fits = rw size short;
      id_fits = id_fits;
      response_fits = to_fits;
      word_fits = word_fits;
      flags_are = sym (known_again flags);
      each = each;
      one_body = one_body;
      sequences_are = refl;
      checksum_is = refl;
    } in
    record { is_frame = is_frame; word_is = refl }
