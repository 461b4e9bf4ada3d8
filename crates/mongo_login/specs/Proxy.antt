-- What `proxy` reads: the frames of both sides. What it tells of their relay.
use Rattle.std.specs.Prelude.{◌≡◌, ℕ, ℤ, pos, ◌+◌, true, Option, None, Some, Result, List, [], ◌∷◌, ◌++◌, length, flat_map, map, codes, decimal}
use Rattle.hex.specs.Hex.{encode_lower}
use Rattle.serde_json.specs.Data.{Data}
use Rattle.mongo_wire.specs.Header.{maximum_of}
use Rattle.mongo_wire.specs.Outside.{State}
use Rattle.mongo_wire.specs.declared.error.ErrorKind.TheVariants.{OutOfMemory}
use Rattle.mongo_proxy.specs.RelayedFrames.{RelayedFrame, Passed, commands, replies}
use Rattle.mongo_proxy.specs.Relays.{RelaysWhole, RelaysCut}
use Rattle.mongo_proxy.specs.Script.{IsScript, NothingFailed}
use Rattle.mongo_proxy.specs.Sides.{Sides, sides}
use Rattle.mongo_proxy.specs.declared.relayed.Relayed.{Relayed}
use Rattle.mongo_proxy.specs.declared.relayed.RelayFault.{RelayFault}
use Rattle.mongo_proxy.specs.declared.relayed.Side.{Side}
use Rattle.mongo_proxy.specs.declared.relayed.Side.TheVariants.{Client, Server}
use Rattle.mongo_settings.specs.Kinds.{◌>>=◌, object_of, optional, or_absent, required, int32_in, joined_hex_in}
use Rattle.mongo_settings.specs.Line.{line}
use Rattle.mongo_settings.specs.Report.{kind_line, reason_line}
use Rattle.mongo_settings.specs.Settings.{unless_refused, needed, value_judged}
use Rattle.mongo_settings.specs.declared.rehearsal.RehearsalStatus.{RehearsalStatus}
use Rattle.mongo_settings.specs.declared.rehearsal.RehearsalStatus.TheVariants.{Accepted, Refused}
use Rattle.mongo_settings.specs.declared.settings.SettingsError.{SettingsError}
use Rattle.mongo_login.specs.declared.proxy.ProxySettings.{ProxySettings}

-- ---- the object

abbrev pub commands_key : List ℕ
commands_key = codes "commands"

abbrev pub replies_key : List ℕ
replies_key = codes "replies"

abbrev pub first_id_key : List ℕ
first_id_key = codes "first_id"

-- the settings that a value is
unfoldable pub proxy_in : Data → Option ProxySettings
proxy_in d = do
  keys ← object_of (commands_key ∷ replies_key ∷ first_id_key ∷ []) d
  first_id ← or_absent (pos 0) (optional first_id_key int32_in d)
  sent ← required commands_key joined_hex_in d
  answered ← required replies_key joined_hex_in d
  Some (record { commands = sent; replies = answered; first_id = first_id })

-- the settings that a text is, or why it is none
unfoldable pub proxy_judged : List ℕ → Result ProxySettings SettingsError
proxy_judged text =
    unless_refused (value_judged text) λ d.
    needed (proxy_in d)

-- ---- the relay

-- a side in memory gives these bytes, and nothing was written to it or counted
abbrev pub in_memory : List ℕ → State
in_memory bytes = record { left = Some bytes; read_faults = 0; ends = 0; written = Some []; flushed = 0; write_faults = 0 }

abbrev pub sides_of : ProxySettings → Sides
sides_of asked = sides (in_memory asked.commands) (in_memory asked.replies)

-- how many frames are wanted: one more than the bytes of both sides could hold
abbrev pub most_of : ProxySettings → ℕ
most_of asked = length asked.commands + length asked.replies + 1

-- ---- the lines

-- a frame in hex behind its name
unfoldable pub frame_line : List ℕ → List ℕ → List ℕ
frame_line name frame = line name (encode_lower frame ∷ [])

abbrev pub frame_lines : List ℕ → List (List ℕ) → List ℕ
frame_lines name frames = flat_map (frame_line name) frames

-- the frames as they were sent on
abbrev pub sent_frames : List Passed → List (List ℕ)
sent_frames frames = map (λ f. f.sent) frames

-- all that the server was sent, then all that the client was
abbrev pub traffic_lines : List (List ℕ) → List (List ℕ) → List ℕ
traffic_lines to_server to_client = frame_lines (codes "to-server") to_server ++ frame_lines (codes "to-client") to_client

unfoldable pub count_lines : Relayed → List ℕ
count_lines done = line (codes "commands") (decimal done.commands ∷ []) ++ line (codes "replies") (decimal done.replies ∷ [])

abbrev pub side_name : Side → List ℕ
side_name Client = codes "Client"
side_name Server = codes "Server"

-- the side whose link was read, and the cause
unfoldable pub fault_lines : RelayFault → List ℕ
fault_lines fault = line (codes "refused") [] ++ (line (codes "side") (side_name fault.side ∷ []) ++ (kind_line fault.error.kind ++ reason_line fault.error.kind))

abbrev pub relayed_lines : List RelayedFrame → List ℕ
relayed_lines relayed = traffic_lines (sent_frames (commands relayed)) (sent_frames (replies relayed))

-- ---- the report

-- the frames were relayed until the client ended between two of them
pub record TellsWhole (asked : ProxySettings) (text : List ℕ) : Type 0 where
  pub done : Relayed
  pub ended : done.ended ≡ true
  pub last : ℤ
  pub after : Sides
  pub relays : RelaysWhole (maximum_of None) (most_of asked) asked.first_id last (sides_of asked) after done
  pub text_is : text ≡ relayed_lines relays.relayed ++ count_lines done

-- the relay was refused, not for want of memory, by a fault of what the sides hold
pub record TellsCut (asked : ProxySettings) (text : List ℕ) : Type 0 where
  pub fault : RelayFault
  pub last : ℤ
  pub after : Sides
  pub relays : RelaysCut (maximum_of None) (most_of asked) asked.first_id last (sides_of asked) after fault
  pub unfailed : NothingFailed (sides_of asked) after
  pub cause : fault.error.kind ≡ OutOfMemory → ⊥
  pub text_is : text ≡ relayed_lines relays.relayed ++ (count_lines fault.done ++ fault_lines fault)

abbrev pub TellsRelay : ProxySettings → RehearsalStatus → List ℕ → Type 0
TellsRelay asked Accepted text = TellsWhole asked text
TellsRelay asked Refused text = TellsCut asked text

-- the sides hold frames that are relayed to the end
abbrev pub HoldsScript : ProxySettings → Type 0
HoldsScript asked = (relayed : List RelayedFrame) × IsScript (maximum_of None) asked.first_id (most_of asked) (sides_of asked) relayed

-- what the sides hold decides: it is a script, or it isn't
abbrev pub RelayComesOut : ProxySettings → RehearsalStatus → Type 0
RelayComesOut asked Accepted = HoldsScript asked
RelayComesOut asked Refused = HoldsScript asked → ⊥
