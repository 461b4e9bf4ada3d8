-- What the readers of sections find at the front of bytes.
use Rattle.std.proofs.Common.{◌≡◌, ◌≢◌, ℕ, ◌+◌, ◌-◌, ◌≤◌, List, [], ◌∷◌, ◌++◌, length, take, drop, refl, sym, ap, ◌∙◌, arith}
use Rattle.std.specs.List.{flat_map}
use Rattle.std.specs.Int.{from_le_bytes, w32}
use Rattle.std.proofs.lemmas.List.{take_at, length-append, append_assoc, take-append-drop, length-drop, length-take-le, take-take}
use Rattle.std.proofs.lemmas.Nat.{from_le_bytes-to_le_bytes_4}
use Rattle.mongo_bson.specs.Framed.{maximum_length}
use Rattle.mongo_bson.specs.Reading.{BeginsWithCstring, HasNoCstring, BeginsWithDocument, HasNoDocument}
use Rattle.mongo_bson.proofs.Cstrings.{one_cstring}
use Rattle.mongo_bson.proofs.Sizes.{number_at_front}
use Rattle.mongo_wire.specs.Frame.{Section, body, sequence, IsSection, IsSequence, section_bytes, sequence_bytes, uint32}
use Rattle.mongo_wire.specs.Sections.{AreDocuments, sized, BeginsWithSequence, SplitsSequence, HasNoSequence, BeginsWithSection, SplitsSequenceSection}
use Rattle.mongo_wire.specs.declared.document_sequence.DocumentSequence.{DocumentSequence}
use Rattle.mongo_bson.specs.declared.raw_document.RawDocument.{RawDocument}
use Rattle.mongo_wire.specs.declared.sections.SectionRef.TheVariants.{Body, Sequence}
use Rattle.mongo_wire.specs.declared.sections.SequenceRef.{SequenceRef}
use Rattle.mongo_wire.proofs.Fields.{IsBytes, field}
use Rattle.mongo_wire.proofs.OneFrame.{one_framed, sequence_made_of}

-- ---- documents

pub documents_more : (bytes document rest : List ℕ) → BeginsWithDocument bytes document rest → AreDocuments rest → AreDocuments bytes
documents_more bytes document rest begins (documents, each, spelled) =
    (document ∷ documents, (begins.framed, each), begins.spelled ∙ ap (λ l. document ++ l) spelled)

pub documents_back : (bytes document rest : List ℕ) → BeginsWithDocument bytes document rest → AreDocuments bytes → AreDocuments rest
documents_back bytes document rest begins ([], each, spelled) =
    absurd (omega (arith, ap length begins.spelled, ap length spelled, length-append document rest, begins.framed.least))
documents_back bytes document rest begins (d ∷ documents, each, spelled) =
    let one = one_framed document d rest (flat_map (λ d. d) documents) begins.framed each.0 (sym begins.spelled ∙ spelled) in
    (documents, each.1, one.1)

pub documents_stop : (bytes : List ℕ) → HasNoDocument bytes → bytes ≢ [] → AreDocuments bytes → ⊥
documents_stop bytes none some ([], each, spelled) = some spelled
documents_stop bytes none some (d ∷ documents, each, spelled) = none d (flat_map (λ d. d) documents) each.0 spelled

-- ---- sequences

pub sequence_size : (bytes rest : List ℕ) (s : DocumentSequence) → IsSequence s → bytes ≡ sized s ++ rest → from_le_bytes w32 bytes ≡ 4 + length (sequence_bytes s)
sequence_size bytes rest s is e =
    let size = 4 + length (sequence_bytes s) in
    ap (from_le_bytes w32) (e ∙ append_assoc (uint32 size) (sequence_bytes s) rest) ∙ number_at_front (uint32 size) (sequence_bytes s ++ rest) (omega arith) ∙ from_le_bytes-to_le_bytes_4 size (omega (arith, is.size))

-- what the size counts beside itself
content_is : (bytes rest content : List ℕ) (size : ℕ) (s : DocumentSequence) → IsSequence s → bytes ≡ sized s ++ rest → size ≡ from_le_bytes w32 bytes → content ≡ drop 4 (take size bytes) → content ≡ sequence_bytes s
content_is bytes rest content size s is e size_is content_cut =
    let counted : length (sized s) ≡ size = omega (arith, size_is, sequence_size bytes rest s is e, length-append (uint32 (4 + length (sequence_bytes s))) (sequence_bytes s)) in
    content_cut ∙ ap (drop 4) (ap (take size) e ∙ take_at (sized s) rest size counted)

pub no_sequence_name : (bytes content : List ℕ) (size : ℕ) → size ≡ from_le_bytes w32 bytes → content ≡ drop 4 (take size bytes) → HasNoCstring content → HasNoSequence bytes
no_sequence_name bytes content size size_is cut none s rest is e =
    none s.identifier (flat_map (λ d. d) s.documents) is.name (content_is bytes rest content size s is e size_is cut)

-- documents fill what stands after the identifier of a sequence
pub sequence_filled : (bytes content identifier documents : List ℕ) (size : ℕ) → size ≡ from_le_bytes w32 bytes → content ≡ drop 4 (take size bytes)
    → BeginsWithCstring content identifier documents → (s : DocumentSequence) (rest : List ℕ) → IsSequence s → bytes ≡ sized s ++ rest → AreDocuments documents
sequence_filled bytes content identifier documents size size_is cut name s rest is e =
    let names = one_cstring identifier s.identifier documents (flat_map (λ d. d) s.documents) name.is_cstring.without_zero is.name.without_zero (sym name.spelled ∙ content_is bytes rest content size s is e size_is cut) in
    (s.documents, is.each, names.1)

pub sequence_found : (bytes content rest : List ℕ) (size : ℕ) (read : SequenceRef) → IsBytes bytes → 4 ≤ size → size ≤ maximum_length → size ≤ length bytes → size ≡ from_le_bytes w32 bytes
    → content ≡ drop 4 (take size bytes) → rest ≡ drop size bytes → BeginsWithCstring content read.identifier.now read.documents.now → AreDocuments read.documents.now → BeginsWithSequence bytes read rest
sequence_found bytes content rest size read small least fits within size_is cut left name (documents, each, spelled) =
    let s = sequence_made_of read.identifier.now documents in
    let whole : content ≡ sequence_bytes s = name.spelled ∙ ap (λ l. read.identifier.now ++ 0 ∷ l) spelled in
    let counted : length content ≡ size - 4 = ap length cut ∙ omega (arith, length-drop 4 (take size bytes), length-take-le size bytes within) in
    let size_of : size ≡ 4 + length (sequence_bytes s) = omega (arith, counted, ap length whole) in
    let four : take 4 (take size bytes) ≡ uint32 size = take-take 4 size bytes least ∙ sym (field 0 bytes small (omega arith)) ∙ ap uint32 (sym size_is) in
    record {
      sequence = s;
      is_sequence = record { name = name.is_cstring; each = each; size = omega (arith, size_of) };
      spelled = sym (take-append-drop size bytes) ∙ ap (λ l. l ++ drop size bytes) (sym (take-append-drop 4 (take size bytes)) ∙ ap (λ l. l ++ drop 4 (take size bytes)) (four ∙ ap uint32 size_of) ∙ ap (λ l. uint32 (4 + length (sequence_bytes s)) ++ l) (sym cut ∙ whole)) ∙ ap (λ l. sized s ++ l) (sym left);
      shown = record { identifier = refl; documents = spelled };
    }

-- ---- sections

pub body_found : (bytes after rest : List ℕ) (kind : ℕ) (read : RawDocument) → bytes ≡ kind ∷ after → kind ≡ 0 → BeginsWithDocument after read.bytes.now rest → BeginsWithSection bytes (Body read) rest
body_found bytes after rest kind read front is begins = record {
  section = body read.bytes.now;
  is_section = begins.framed;
  spelled = front ∙ ap (λ k. k ∷ after) is ∙ ap (λ l. 0 ∷ l) begins.spelled;
  shown = refl;
}

pub begins_with_sequence_section : (bytes after rest : List ℕ) (kind : ℕ) (read : SequenceRef) → bytes ≡ kind ∷ after → kind ≡ 1 → BeginsWithSequence after read rest → BeginsWithSection bytes (Sequence read) rest
begins_with_sequence_section bytes after rest kind read front is begins = record {
  section = sequence begins.sequence;
  is_section = begins.is_sequence;
  spelled = front ∙ ap (λ k. k ∷ after) is ∙ ap (λ l. 1 ∷ l) begins.spelled;
  shown = begins.shown;
}

head_of_byte : (k l : ℕ) (xs ys : List ℕ) → k ∷ xs ≡ l ∷ ys → k ≡ l
head_of_byte k l xs ys e = cc

tail_of_byte : (k l : ℕ) (xs ys : List ℕ) → k ∷ xs ≡ l ∷ ys → xs ≡ ys
tail_of_byte k l xs ys e = cc

pub sequence_split : (bytes after rest : List ℕ) (kind : ℕ) (read : SequenceRef) → bytes ≡ kind ∷ after → kind ≡ 1 → SplitsSequence after read rest → SplitsSequenceSection bytes read rest
sequence_split bytes after rest kind read front is splits = record {
  shorter = omega (arith, ap length front, splits.shorter);
  whole = λ are. begins_with_sequence_section bytes after rest kind read front is (splits.whole are);
  filled = filled;
}
  where
    filled : (s : Section) (more : List ℕ) → IsSection s → bytes ≡ section_bytes s ++ more → AreDocuments read.documents.now
    filled (body document) more is_section e = absurd (omega (arith, head_of_byte kind 0 after (document ++ more) (sym front ∙ e), is))
    filled (sequence s) more is_section e = splits.filled s more is_section (tail_of_byte kind 1 after (sized s ++ more) (sym front ∙ e))
