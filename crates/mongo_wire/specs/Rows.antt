-- Why bytes aren't read as a frame: the rows of the table, the first of which that applies is the answer. Each speaks of
-- the bytes that were taken, and none but those were needed to see it.
use Rattle.std.specs.Prelude.{◌≡◌, ℕ, ℤ, pos, ◌<◌, ◌≤◌, ◌<ℤ◌, ◌≤ℤ◌, int_lt, ◌⊎◌, Option, None, Some, List, [], length, if◌then◌else◌, IfSome}
use Rattle.std.specs.Io.KnownBytes.{Consumes}
use Rattle.mongo_wire.specs.Frame.{Frame, IsFrame}
use Rattle.mongo_wire.specs.Header.{header_length, signed_at, op_code_of}
use Rattle.mongo_wire.specs.declared.op_code.OpCode.{OpCode}
use Rattle.mongo_wire.specs.declared.op_code.OpCode.TheVariants as op_code
use Rattle.mongo_wire.specs.declared.error.ErrorKind.{ErrorKind}
use Rattle.mongo_wire.specs.declared.error.ErrorKind.TheVariants.{EndOfInput, InvalidResponse, InvalidArgument}
use Rattle.mongo_wire.specs.declared.fault.ArgumentFault.TheVariants.{CheckedFailure}
use Rattle.mongo_wire.specs.declared.fault.ResponseFault.TheVariants.{OpCode as OpCodeFault, OverMaximum, Compressed, NotMessage, Sections}

-- the rows of a known op code: what isn't read, and a length that the header alone is longer than
abbrev pub code_row : ℤ → OpCode → Option ErrorKind
code_row length op_code.Compressed = Some (InvalidResponse Compressed)
code_row length op_code.Reply = Some (InvalidResponse NotMessage)
code_row length op_code.Query = Some (InvalidResponse NotMessage)
code_row length op_code.Message = if int_lt length (pos header_length) then Some (InvalidArgument CheckedFailure) else None

abbrev pub length_row : ℤ → ℤ → Option OpCode → ℤ → Option ErrorKind
length_row maximum length None number = Some (InvalidResponse (OpCodeFault number))
length_row maximum length (Some code) number = if int_lt maximum length then Some (InvalidResponse OverMaximum) else code_row length code

-- the row that a header calls for by itself; none where it is an OP_MSG's whose length is that of a header to the maximum
abbrev pub header_row : ℤ → List ℕ → Option ErrorKind
header_row maximum head = length_row maximum (signed_at 0 head) (op_code_of (signed_at 12 head)) (signed_at 12 head)

-- the header came and calls for no row
pub record Passes (maximum : ℤ) (taken : List ℕ) : Type 0 where
  pub whole : header_length ≤ length taken
  pub good : header_row maximum taken ≡ None

-- the bytes ended within the header
pub record ShortHeader (taken : List ℕ) (kind : ErrorKind) : Type 0 where
  pub short : length taken < header_length
  pub kind_is : kind ≡ EndOfInput

-- the header calls for it
pub record HeaderRow (maximum : ℤ) (taken : List ℕ) (kind : ErrorKind) : Type 0 where
  pub header : length taken ≡ header_length
  pub row : header_row maximum taken ≡ Some kind

-- the bytes ended before the frame did
pub record ShortFrame (maximum : ℤ) (taken : List ℕ) (kind : ErrorKind) : Type 0 where
  pub passes : Passes maximum taken
  pub short : pos (length taken) <ℤ signed_at 0 taken
  pub kind_is : kind ≡ EndOfInput

-- all the bytes of the frame came, and they are none by the grammar
pub record NoSections (maximum : ℤ) (taken : List ℕ) (kind : ErrorKind) : Type 0 where
  pub passes : Passes maximum taken
  pub whole : pos (length taken) ≡ signed_at 0 taken
  pub none : (parts : Frame) → IsFrame taken parts → ⊥
  pub kind_is : kind ≡ InvalidResponse Sections

abbrev pub FrameRow : ℤ → List ℕ → ErrorKind → Type 0
FrameRow maximum taken kind = ShortHeader taken kind ⊎ (HeaderRow maximum taken kind ⊎ (ShortFrame maximum taken kind ⊎ NoSections maximum taken kind))

-- bytes that call for no row yet and aren't a whole frame
abbrev pub IsUnfinished : ℤ → List ℕ → Type 0
IsUnfinished maximum taken = (length taken < header_length) ⊎ (Passes maximum taken × (pos (length taken) <ℤ signed_at 0 taken))

-- a front of the header, or of a frame whose header calls for no row
abbrev pub IsStarted : ℤ → List ℕ → Type 0
IsStarted maximum taken = (length taken ≤ header_length) ⊎ (Passes maximum taken × (pos (length taken) ≤ℤ signed_at 0 taken))

-- the bytes that were taken of those that were left call for this row
abbrev pub TakesRow : ErrorKind → ℤ → Option (List ℕ) → Option (List ℕ) → Type 0
TakesRow kind maximum old new = (taken : List ℕ) × Consumes old new taken × FrameRow maximum taken kind

-- nothing is left
abbrev pub IsEmptied : Option (List ℕ) → Type 0
IsEmptied left = IfSome left (λ rest. rest ≡ [])

-- the reading was cut before any row and before the frame's end
abbrev pub TakesUnfinished : ℤ → Option (List ℕ) → Option (List ℕ) → Type 0
TakesUnfinished maximum old new = (taken : List ℕ) × Consumes old new taken × IsUnfinished maximum taken

-- the reading was given up before any row, perhaps at the frame's end
abbrev pub TakesStarted : ℤ → Option (List ℕ) → Option (List ℕ) → Type 0
TakesStarted maximum old new = (taken : List ℕ) × Consumes old new taken × IsStarted maximum taken
