-- What was copied while sections were judged is what they hold.
use Rattle.std.proofs.Common.{◌≡◌, ◌≢◌, ◌-◌, ◌+◌, ◌≤◌, ℕ, length, Option, None, Some, is_some, false, List, [], ◌∷◌, ◌++◌, drop, refl, sym, ap, ◌∙◌, subst, append-nil, append_assoc}
use Rattle.std.specs.List.{AllByRecursion, flat_map}
use Rattle.mongo_bson.specs.Framed.{IsFramed}
use Rattle.mongo_bson.specs.Reading.{HasNoDocument}
use Rattle.mongo_wire.specs.Frame.{Frame, IsSequence, section_bytes}
use Rattle.mongo_wire.specs.Buffer.{HoldsFrame, held_bytes}
use Rattle.mongo_wire.specs.Content.{IsSections}
use Rattle.mongo_wire.specs.Copies.{CopiesSequences}
use Rattle.mongo_wire.specs.Sections.{AreDocuments, ShowsSequence}
use Rattle.mongo_wire.specs.declared.document_sequence.DocumentSequence.{DocumentSequence}
use Rattle.mongo_wire.specs.declared.frame_buffer.FrameBuffer.{FrameBuffer}
use Rattle.mongo_wire.specs.declared.sections.SequenceRef.{SequenceRef}
use Rattle.mongo_wire.proofs.OneFrame.{one_documents, short_tail}
use Rattle.mongo_wire.proofs.AtFront.{documents_back, documents_stop}

-- ---- documents

left_documents : (ds : List (List ℕ)) (rest : List ℕ) → AllByRecursion IsFramed ds → AreDocuments (flat_map (λ d. d) ds ++ rest) → AreDocuments rest
left_documents [] rest each are = are
left_documents (d ∷ ds) rest each are =
    left_documents ds rest each.1 (documents_back ((d ++ flat_map (λ d. d) ds) ++ rest) d (flat_map (λ d. d) ds ++ rest) (record { framed = each.0; spelled = append_assoc d (flat_map (λ d. d) ds) rest }) are)

pub stop_documents : (bytes rest : List ℕ) (ds : List (List ℕ)) → AreDocuments bytes → AllByRecursion IsFramed ds → bytes ≡ flat_map (λ d. d) ds ++ rest → rest ≢ [] → HasNoDocument rest → ⊥
stop_documents bytes rest ds are each spelled some none =
    documents_stop rest none some (left_documents ds rest each (subst AreDocuments spelled are))

pub all_documents : (bytes rest : List ℕ) (ds : List (List ℕ)) → bytes ≡ flat_map (λ d. d) ds ++ rest → rest ≡ [] → bytes ≡ flat_map (λ d. d) ds
all_documents bytes rest ds spelled none = spelled ∙ ap (λ l. flat_map (λ d. d) ds ++ l) none ∙ append-nil (flat_map (λ d. d) ds)

-- ---- sequences

of_parts : (s : DocumentSequence) (name : List ℕ) (documents : List (List ℕ)) → name ≡ s.identifier → documents ≡ s.documents → record { identifier = name; documents = documents } ≡ s
of_parts s name documents p q = ap (λ n. record { identifier = n; documents = documents }) p ∙ ap (λ d. record { identifier = s.identifier; documents = d }) q

-- one sequence is shown
pub one_copy : (s copy : DocumentSequence) (read : SequenceRef) → IsSequence s → ShowsSequence s read → AllByRecursion IsFramed copy.documents → ShowsSequence copy read → copy ≡ s
one_copy s copy read is shown each copied =
    of_parts s copy.identifier copy.documents (sym copied.identifier ∙ shown.identifier) (one_documents copy.documents s.documents each is.each (sym copied.documents ∙ shown.documents))

-- ---- those of the frame that a buffer holds

pub copies_held : (buffer : FrameBuffer) (frame : List ℕ) (parts : Frame) (copies : Option (List DocumentSequence)) → HoldsFrame frame parts buffer → CopiesSequences (held_bytes buffer) (Some []) copies → copies ≡ Some parts.sequences
copies_held buffer frame parts copies holds copied =
    let is = holds.is_held.is_frame in
    let spelled : drop 4 (held_bytes buffer) ≡ flat_map section_bytes is.sections ++ is.tail = ap (drop 4) (holds.bytes_are ∙ ap (drop 16) is.spelled) in
    copied is.sections parts.body is.tail (record { each = is.each; one_body = is.one_body; spelled = spelled; short = short_tail is.word is.tail parts.checksum is.checksum_is }) ∙ ap Some is.sequences_are

pub held_copies : (copies sequences : List DocumentSequence) → Some copies ≡ Some sequences → copies ≡ sequences
held_copies copies sequences e = cc
