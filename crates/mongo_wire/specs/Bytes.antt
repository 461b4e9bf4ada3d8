-- Commands and replies as bytes: frames one after another.
use Rattle.std.specs.Prelude.{◌≡◌, ℕ, ℤ, pos, ◌≤ℤ◌, None, List, [], ◌∷◌, ◌++◌, length}
use Rattle.std.specs.Int.{int_wrapping_add, w32}
use Rattle.mongo_wire.specs.Frame.{Frame, IsFrame, IsFrameWith}

-- the greatest frame before a description
abbrev pub first_maximum : ℤ
first_maximum = pos 50331648

-- the id after this one; after 2147483647 comes -2147483648
abbrev pub next_id : ℤ → ℤ
next_id id = int_wrapping_add w32 id (pos 1)

-- the next id after as many frames as there are things in the list
abbrev pub id_after_all : {X : Type 0} → List X → ℤ → ℤ
id_after_all [] id = id
id_after_all (thing ∷ things) id = id_after_all things (next_id id)

-- a frame of a command that has no sequences: response-to 0, no checksum, and a flag word of zero
abbrev pub IsCommandFrame : List ℕ → ℤ → List ℕ → Type 0
IsCommandFrame frame id command = IsFrameWith frame (record { request_id = id; response_to = pos 0; flags = 0; body = command; sequences = []; checksum = None }) 0

-- The bytes are the frames of these commands, joined, ids counted up; the first is within the first maximum, the
-- later ones within the later one.
abbrev pub IsSentWithin : ℤ → ℤ → List (List ℕ) → ℤ → List ℕ → Type 0
IsSentWithin first later [] id bytes = bytes ≡ []
IsSentWithin first later (command ∷ commands) id bytes = (frame rest : List ℕ) × (bytes ≡ frame ++ rest) × IsCommandFrame frame id command × (pos (length frame) ≤ℤ first) × IsSentWithin later later commands (next_id id) rest

abbrev pub IsSent : List (List ℕ) → ℤ → ℤ → List ℕ → Type 0
IsSent commands id maximum bytes = IsSentWithin first_maximum maximum commands id bytes

-- The bytes are frames of these documents, joined, with any ids, flags, sequences and checksums; maxima as above.
abbrev pub IsWholeWithin : ℤ → ℤ → List (List ℕ) → List ℕ → Type 0
IsWholeWithin first later [] bytes = bytes ≡ []
IsWholeWithin first later (reply ∷ replies) bytes = (frame rest : List ℕ) × (parts : Frame) × (bytes ≡ frame ++ rest) × IsFrame frame parts × (parts.body ≡ reply) × (pos (length frame) ≤ℤ first) × IsWholeWithin later later replies rest

abbrev pub IsWhole : List (List ℕ) → ℤ → List ℕ → Type 0
IsWhole replies maximum bytes = IsWholeWithin first_maximum maximum replies bytes
