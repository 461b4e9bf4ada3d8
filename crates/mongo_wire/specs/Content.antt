-- What follows the header of a frame: the flags, the sections, and four bytes of a checksum or nothing.
use Rattle.std.specs.Prelude.{◌≡◌, ℕ, ◌+◌, ◌-◌, ◌^◌, ◌<◌, ◌≤◌, Option, None, Some, List, [], ◌∷◌, ◌++◌, length, take, drop, flat_map}
use Rattle.std.specs.List.{AllByRecursion}
use Rattle.mongo_wire.specs.Frame.{Section, IsSection, IsChecksum, bodies, section_bytes, uint32}
use Rattle.mongo_wire.specs.declared.held_frame.Offsets.{Offsets}

-- a part of the bytes, from one place to another
pub record IsAt (bytes part : List ℕ) (from to : ℕ) : Type 0 where
  pub ordered : from ≤ to
  pub within : to ≤ length bytes
  pub is : take (to - from) (drop from bytes) ≡ part

-- where the only body lies, if there was one
abbrev pub Finds : List ℕ → List (List ℕ) → Option Offsets → Type 0
Finds bytes documents None = documents ≡ []
Finds bytes documents (Some offsets) = (document : List ℕ) × (documents ≡ document ∷ []) × IsAt bytes document offsets.body_start offsets.body_end

-- sections with one body, and a tail that is too short for a section
pub record IsSections (bytes : List ℕ) (sections : List Section) (body tail : List ℕ) : Type 0 where
  pub each : AllByRecursion IsSection sections
  pub one_body : bodies sections ≡ body ∷ []
  pub spelled : bytes ≡ flat_map section_bytes sections ++ tail
  pub short : length tail ≤ 4

-- they stand after the flags, and lie where the offsets say
pub record LiesAt (bytes : List ℕ) (offsets : Offsets) : Type 0 where
  pub sections : List Section
  pub body : List ℕ
  pub tail : List ℕ
  pub are : IsSections (drop 4 bytes) sections body tail
  pub body_at : IsAt bytes body offsets.body_start offsets.body_end
  pub ended : 4 + length (flat_map section_bytes sections) ≡ offsets.sections_end
  pub within : offsets.sections_end ≤ length bytes

abbrev pub HasNoSections : List ℕ → Type 0
HasNoSections bytes = (sections : List Section) (body tail : List ℕ) → IsSections bytes sections body tail → ⊥

-- a flag word, sections with one body, and a checksum where the word tells of one
pub record IsContent (bytes : List ℕ) (word : ℕ) (sections : List Section) (body tail : List ℕ) (sum : Option ℕ) : Type 0 where
  pub word_fits : word < 2 ^ 32
  pub each : AllByRecursion IsSection sections
  pub one_body : bodies sections ≡ body ∷ []
  pub checksum_is : IsChecksum word tail sum
  pub spelled : bytes ≡ uint32 word ++ (flat_map section_bytes sections ++ tail)

-- what was read of it
pub record IsContentOf (bytes : List ℕ) (word : ℕ) (sum : Option ℕ) (offsets : Offsets) : Type 0 where
  pub sections : List Section
  pub body : List ℕ
  pub tail : List ℕ
  pub is_content : IsContent bytes word sections body tail sum
  pub body_at : IsAt bytes body offsets.body_start offsets.body_end
  pub sections_at : IsAt bytes (flat_map section_bytes sections) 4 offsets.sections_end

abbrev pub HasNoContent : List ℕ → Type 0
HasNoContent bytes = (word : ℕ) (sections : List Section) (body tail : List ℕ) (sum : Option ℕ) → IsContent bytes word sections body tail sum → ⊥
