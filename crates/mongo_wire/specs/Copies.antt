-- The sequences of a frame, copied out of it while it is judged.
use Rattle.std.specs.Prelude.{◌≡◌, ℕ, Option, None, Some, List, ◌++◌, drop}
use Rattle.mongo_wire.specs.Content.{IsSections}
use Rattle.mongo_wire.specs.Frame.{Section, sequences_of}
use Rattle.mongo_wire.specs.declared.document_sequence.DocumentSequence.{DocumentSequence}

-- copies and these behind them, where copies are wanted
abbrev pub copies_with : Option (List DocumentSequence) → List DocumentSequence → Option (List DocumentSequence)
copies_with None sequences = None
copies_with (Some copies) sequences = Some (copies ++ sequences)

-- all sequences of the sections that follow the flags were copied, where copies are wanted
abbrev pub CopiesSequences : List ℕ → Option (List DocumentSequence) → Option (List DocumentSequence) → Type 0
CopiesSequences bytes old new = (sections : List Section) (body tail : List ℕ) → IsSections (drop 4 bytes) sections body tail → new ≡ copies_with old (sequences_of sections)
