-- What a message is written as is a frame of the grammar.
use Rattle.std.proofs.Common.{◌≡◌, ℕ, ℤ, ◌%◌, ◌^◌, ◌<◌, ◌≤◌, Option, None, Some, List, [], ◌∷◌, ◌++◌, length, map, refl, sym, ap, ◌∙◌, bit_and, FitsSigned, IfSome, arith}
use Rattle.std.proofs.lemmas.Nat.{and_assoc, and_le_r}
use Rattle.std.specs.Int.{w32}
use Rattle.std.specs.Int.Bits.{and_self}
use Rattle.std.specs.List.{AllByRecursion}
use Rattle.mongo_bson.specs.Framed.{maximum_length}
use Rattle.mongo_wire.specs.Frame.{IsFrame, IsSection, IsChecksum, sequence, bodies, sequences_of, int32, uint32, message_code, known_flags}
use Rattle.mongo_wire.specs.Message.{IsFrameOf, TellsChecksum, parts_of, sections_of, checksum_bytes, content_of, frame_length, written_frame}
use Rattle.mongo_wire.specs.declared.document_sequence.DocumentSequence.{DocumentSequence}
use Rattle.mongo_wire.specs.declared.message.Message.{Message}

pub known_twice : (word : ℕ) → bit_and (bit_and word known_flags) known_flags ≡ bit_and word known_flags
known_twice word = and_assoc known_flags word known_flags ∙ ap (bit_and word) (and_self known_flags)

no_bodies : (sequences : List DocumentSequence) → bodies (map sequence sequences) ≡ []
no_bodies [] = refl
no_bodies (s ∷ sequences) = no_bodies sequences

same_sequences : (sequences : List DocumentSequence) → sequences_of (map sequence sequences) ≡ sequences
same_sequences [] = refl
same_sequences (s ∷ sequences) = ap (λ r. s ∷ r) (same_sequences sequences)

checksum_is : (word : ℕ) (checksum : Option ℕ) → IfSome checksum (λ sum. sum < 2 ^ 32) → IfSome checksum (λ sum. word % 2 ≡ 1) → IsChecksum word (checksum_bytes checksum) checksum
checksum_is word None fits tells = refl
checksum_is word (Some sum) fits tells = (tells, fits, refl)

length_is : (id : ℤ) (m : Message) → length (written_frame id m) ≡ frame_length m
length_is id m = omega arith

pub written_is_frame : (id : ℤ) (m : Message) → FitsSigned w32 id → FitsSigned w32 m.response_to → frame_length m ≤ maximum_length → AllByRecursion IsSection (sections_of m)
    → IfSome m.checksum (λ sum. sum < 2 ^ 32) → TellsChecksum m → IsFrameOf id m (written_frame id m)
written_is_frame id m id_fits to_fits short sections sum_fits tells =
    let word = bit_and m.flags.0 known_flags in
    let word_fits : word < 2 ^ 32 = omega (arith, and_le_r m.flags.0 known_flags) in
    let is_frame : IsFrame (written_frame id m) (parts_of id m) = record {
      word = word;
      sections = sections_of m;
      tail = checksum_bytes m.checksum;
      spelled = ap (λ n. uint32 n ++ (int32 id ++ (int32 m.response_to ++ (uint32 message_code ++ (uint32 word ++ content_of m))))) (sym (length_is id m));
      length_fits = rw (length_is id m) short;
      id_fits = id_fits;
      response_fits = to_fits;
      word_fits = word_fits;
      flags_are = sym (known_twice m.flags.0);
      each = sections;
      one_body = ap (λ r. m.document_payload ∷ r) (no_bodies m.document_sequences);
      sequences_are = same_sequences m.document_sequences;
      checksum_is = checksum_is word m.checksum sum_fits tells;
    } in
    record { is_frame = is_frame; word_is = refl }
