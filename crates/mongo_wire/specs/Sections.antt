-- What stands at the front of bytes: the words of the readers of sections.
use Rattle.std.specs.Prelude.{◌≡◌, ℕ, ◌+◌, ◌<◌, List, ◌++◌, length, flat_map}
use Rattle.std.specs.List.{AllByRecursion}
use Rattle.mongo_bson.specs.Framed.{IsFramed}
use Rattle.mongo_wire.specs.Frame.{Section, body, sequence, IsSection, IsSequence, section_bytes, sequence_bytes, uint32}
use Rattle.mongo_wire.specs.declared.document_sequence.DocumentSequence.{DocumentSequence}
use Rattle.mongo_wire.specs.declared.sections.SectionRef.{SectionRef}
use Rattle.mongo_wire.specs.declared.sections.SectionRef.TheVariants.{Body, Sequence}
use Rattle.mongo_wire.specs.declared.sections.SequenceRef.{SequenceRef}

-- documents, one after another, fill the bytes
abbrev pub AreDocuments : List ℕ → Type 0
AreDocuments bytes = (documents : List (List ℕ)) × AllByRecursion IsFramed documents × (bytes ≡ flat_map (λ d. d) documents)

-- a document sequence after its kind byte: its size, and what the size counts beside itself
abbrev pub sized : DocumentSequence → List ℕ
sized s = uint32 (4 + length (sequence_bytes s)) ++ sequence_bytes s

-- what was read is this sequence
pub record ShowsSequence (s : DocumentSequence) (read : SequenceRef) : Type 0 where
  pub identifier : read.identifier.now ≡ s.identifier
  pub documents : read.documents.now ≡ flat_map (λ d. d) s.documents

-- a sequence and the rest
pub record BeginsWithSequence (bytes : List ℕ) (read : SequenceRef) (rest : List ℕ) : Type 0 where
  pub sequence : DocumentSequence
  pub is_sequence : IsSequence sequence
  pub spelled : bytes ≡ sized sequence ++ rest
  pub shown : ShowsSequence sequence read

-- what is a sequence and the rest where documents fill it, as they do where a sequence stands there
pub record SplitsSequence (bytes : List ℕ) (read : SequenceRef) (rest : List ℕ) : Type 0 where
  pub shorter : length rest < length bytes
  pub whole : AreDocuments read.documents.now → BeginsWithSequence bytes read rest
  pub filled : (s : DocumentSequence) (more : List ℕ) → IsSequence s → bytes ≡ sized s ++ more → AreDocuments read.documents.now

abbrev pub HasNoSequence : List ℕ → Type 0
HasNoSequence bytes = (s : DocumentSequence) (rest : List ℕ) → IsSequence s → bytes ≡ sized s ++ rest → ⊥

-- what was read is this section
abbrev pub Shows : Section → SectionRef → Type 0
Shows (body document) (Body read) = read.bytes.now ≡ document
Shows (body document) (Sequence read) = ⊥
Shows (sequence s) (Body read) = ⊥
Shows (sequence s) (Sequence read) = ShowsSequence s read

-- a section and the rest
pub record BeginsWithSection (bytes : List ℕ) (read : SectionRef) (rest : List ℕ) : Type 0 where
  pub section : Section
  pub is_section : IsSection section
  pub spelled : bytes ≡ section_bytes section ++ rest
  pub shown : Shows section read

-- what is a section and the rest where documents fill it, as they do where a section stands there
pub record SplitsSequenceSection (bytes : List ℕ) (read : SequenceRef) (rest : List ℕ) : Type 0 where
  pub shorter : length rest < length bytes
  pub whole : AreDocuments read.documents.now → BeginsWithSection bytes (Sequence read) rest
  pub filled : (s : Section) (more : List ℕ) → IsSection s → bytes ≡ section_bytes s ++ more → AreDocuments read.documents.now

abbrev pub SplitsSection : List ℕ → SectionRef → List ℕ → Type 0
SplitsSection bytes (Body read) rest = BeginsWithSection bytes (Body read) rest
SplitsSection bytes (Sequence read) rest = SplitsSequenceSection bytes read rest

-- sections, one after another, fill the bytes
abbrev pub AreSections : List ℕ → Type 0
AreSections bytes = (sections : List Section) × AllByRecursion IsSection sections × (bytes ≡ flat_map section_bytes sections)

abbrev pub HasNoSection : List ℕ → Type 0
HasNoSection bytes = (s : Section) (rest : List ℕ) → IsSection s → bytes ≡ section_bytes s ++ rest → ⊥
