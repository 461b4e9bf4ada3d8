-- The relayed frames: which frames are passed on, as which bytes, and what is awaited after each.
use Rattle.std.specs.Prelude.{◌≡◌, ℕ, ℤ, pos, ◌≤ℤ◌, ◌==◌, Bool, List, [], ◌∷◌, length, flat_map, map, bit_and, if◌then◌else◌, ⊤}
use Rattle.std.specs.List.{AllByRecursion}
use Rattle.std.specs.Ordering.{int_eq}
use Rattle.mongo_wire.specs.Bytes.{next_id}
use Rattle.mongo_wire.specs.Frame.{Frame, IsFrame, section_bytes, more_to_come_bit}
use Rattle.mongo_wire.specs.Sending.{sections_frame}
use Rattle.mongo_proxy.specs.declared.awaited.Asked.{Asked}
use Rattle.mongo_proxy.specs.declared.awaited.Awaited.{Awaited}
use Rattle.mongo_proxy.specs.declared.awaited.Awaited.TheVariants.{Command, Reply}

-- a frame as it was taken from one side and as it was sent to the other, and the request id that it was sent with
pub record Passed : Type 0 where
  pub frame : List ℕ
  pub id : ℤ
  pub sent : List ℕ

-- a command passes from the client to the server, a reply from the server to the client
pub data RelayedFrame : Type 0 where
  command : Passed → RelayedFrame
  reply : Passed → RelayedFrame

abbrev pub passed : RelayedFrame → Passed
passed (command c) = c
passed (reply r) = r

abbrev pub commands : List RelayedFrame → List Passed
commands [] = []
commands (command c ∷ relayed) = c ∷ commands relayed
commands (reply r ∷ relayed) = commands relayed

abbrev pub replies : List RelayedFrame → List Passed
replies [] = []
replies (command c ∷ relayed) = replies relayed
replies (reply r ∷ relayed) = r ∷ replies relayed

-- the bytes that were taken, joined, and those that were sent
abbrev pub taken_of : List Passed → List ℕ
taken_of frames = flat_map (λ f. f.frame) frames

abbrev pub sent_of : List Passed → List ℕ
sent_of frames = flat_map (λ f. f.sent) frames

-- ---- one frame

-- MORE_TO_COME is set
abbrev pub has_more_to_come : ℕ → Bool
has_more_to_come flags = bit_and flags more_to_come_bit == more_to_come_bit

-- after a command replies to it are awaited, unless it has MORE_TO_COME
abbrev pub after_command : ℕ → Asked → Awaited
after_command flags asked = if has_more_to_come flags then Command else Reply asked

-- after a reply the next command is awaited, unless the reply has MORE_TO_COME
abbrev pub after_reply : ℕ → Asked → Awaited
after_reply flags asked = if has_more_to_come flags then Reply asked else Command

-- what a reply responds to, as the client knows it: the command's own id in place of the drawn one
abbrev pub responds_to : Asked → ℤ → ℤ
responds_to asked to = if int_eq to asked.drawn_id then asked.original_id else to

-- A frame goes on under this id and response-to, with its flags but CHECKSUM_PRESENT, its sections byte for byte and no checksum.
abbrev pub IsSentAs : (passed : Passed) (parts : Frame) → IsFrame passed.frame parts → ℤ → Type 0
IsSentAs passed parts is_frame to = passed.sent ≡ sections_frame passed.id to parts.flags (flat_map section_bytes is_frame.sections)

-- a command goes to the server under the next id, with its own response-to
pub record IsCommand (id : ℤ) (passed : Passed) (after : Awaited) : Type 0 where
  pub parts : Frame
  pub is_frame : IsFrame passed.frame parts
  pub id_is : passed.id ≡ id
  pub sent_is : IsSentAs passed parts is_frame parts.response_to
  pub after_is : after ≡ after_command parts.flags (record { original_id = parts.request_id; drawn_id = id })

-- a reply to this command goes to the client under its own id
pub record IsReplyTo (asked : Asked) (passed : Passed) (after : Awaited) : Type 0 where
  pub parts : Frame
  pub is_frame : IsFrame passed.frame parts
  pub id_is : passed.id ≡ parts.request_id
  pub sent_is : IsSentAs passed parts is_frame (responds_to asked parts.response_to)
  pub after_is : after ≡ after_reply parts.flags asked

-- ---- one after another

-- where a proxy stands between two frames: what is awaited, and the id of the next command
pub record Stand : Type 0 where
  pub awaited : Awaited
  pub id : ℤ

abbrev pub stand : Awaited → ℤ → Stand
stand awaited id = record { awaited = awaited; id = id }

abbrev pub IsNextOf : Awaited → ℤ → RelayedFrame → Stand → Type 0
IsNextOf Command id (command c) after = IsCommand id c after.awaited × (after.id ≡ next_id id)
IsNextOf (Reply asked) id (reply r) after = IsReplyTo asked r after.awaited × (after.id ≡ id)
IsNextOf awaited id relayed after = ⊥

-- A command where a command is awaited, which draws the next id, or a reply where one is awaited.
abbrev pub IsNext : Stand → RelayedFrame → Stand → Type 0
IsNext before relayed after = IsNextOf before.awaited before.id relayed after

-- Each frame begins where the one before it left the proxy.
abbrev pub Follow : Stand → List RelayedFrame → Stand → Type 0
Follow before [] after = after ≡ before
Follow before (relayed ∷ more) after = (between : Stand) × IsNext before relayed between × Follow between more after

-- a proxy begins with a command, and with this id
abbrev pub beginning : ℤ → Stand
beginning id = stand Command id

-- the frame is one within the maximum
abbrev pub IsWithin : ℤ → RelayedFrame → Type 0
IsWithin maximum relayed = pos (length (passed relayed).frame) ≤ℤ maximum

-- the request ids that commands were sent with
abbrev pub ids_of : List Passed → List ℤ
ids_of frames = map (λ f. f.id) frames

-- no two places hold the same
abbrev pub AllDiffer : {X : Type 0} → List X → Type 0
AllDiffer [] = ⊤
AllDiffer (x ∷ xs) = AllByRecursion (λ y. x ≡ y → ⊥) xs × AllDiffer xs
