-- A frame whose sections are handed in as bytes.
use Rattle.std.specs.Prelude.{◌≡◌, ℕ, ℤ, pos, ◌+◌, ◌≤ℤ◌, ◌<ℤ◌, None, List, [], ◌∷◌, ◌++◌, length, flat_map, bit_and}
use Rattle.std.specs.List.{AllByRecursion}
use Rattle.mongo_wire.specs.Outside.{State, Rose, AppendsFront}
use Rattle.mongo_wire.specs.Frame.{Section, IsSection, IsFrameWith, section_bytes, bodies, sequences_of, int32, uint32, message_code, more_to_come_bit, exhaust_allowed_bit}
use Rattle.mongo_wire.specs.declared.error.ErrorKind.{ErrorKind}
use Rattle.mongo_wire.specs.declared.error.ErrorKind.TheVariants.{WriteFault, OutOfMemory, InvalidArgument}
use Rattle.mongo_wire.specs.declared.fault.ArgumentFault.{ArgumentFault}
use Rattle.mongo_wire.specs.declared.fault.ArgumentFault.TheVariants.{MaximumNegative, TooLong}

-- the flags of a frame without a checksum
abbrev pub unsummed_flags : ℕ
unsummed_flags = more_to_come_bit + exhaust_allowed_bit

-- the frame of these sections, without a checksum
abbrev pub sections_frame : ℤ → ℤ → ℕ → List ℕ → List ℕ
sections_frame id to flags sections = uint32 (20 + length sections) ++ (int32 id ++ (int32 to ++ (uint32 message_code ++ (uint32 (bit_and flags unsummed_flags) ++ sections))))

-- it can be written within the maximum, which isn't negative
pub record SectionsFit (maximum : ℤ) (sections : List ℕ) : Type 0 where
  pub positive : pos 0 ≤ℤ maximum
  pub within : pos (20 + length sections) ≤ℤ maximum

-- why it can't, in this order
abbrev pub SectionsRow : ArgumentFault → ℤ → List ℕ → Type 0
SectionsRow MaximumNegative maximum sections = maximum <ℤ pos 0
SectionsRow TooLong maximum sections = (pos 0 ≤ℤ maximum) × (maximum <ℤ pos (20 + length sections))
SectionsRow fault maximum sections = ⊥

-- Why the write was refused, and what it left: nothing before the sections are judged, then a front of the frame.
abbrev pub SectionsRefused : ErrorKind → ℤ → List ℕ → List ℕ → State → State → Type 0
SectionsRefused (InvalidArgument fault) maximum sections frame old new = SectionsRow fault maximum sections × (new ≡ old)
SectionsRefused WriteFault maximum sections frame old new = Rose old.write_faults new.write_faults × SectionsFit maximum sections × AppendsFront old.written new.written frame
SectionsRefused OutOfMemory maximum sections frame old new = (new.write_faults ≡ old.write_faults) × SectionsFit maximum sections × AppendsFront old.written new.written frame
SectionsRefused kind maximum sections frame old new = ⊥

-- where the bytes are sections with one body, the frame is one of the grammar
abbrev pub IsFrameOfSections : ℤ → ℤ → ℕ → List ℕ → Type 0
IsFrameOfSections id to flags bytes =
    (sections : List Section) (body : List ℕ) → bytes ≡ flat_map section_bytes sections → AllByRecursion IsSection sections → bodies sections ≡ body ∷ []
    → IsFrameWith (sections_frame id to flags bytes) (record { request_id = id; response_to = to; flags = bit_and flags unsummed_flags; body = body; sequences = sequences_of sections; checksum = None }) (bit_and flags unsummed_flags)
