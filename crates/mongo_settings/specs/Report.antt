-- The report: its lines, one after another.
use Rattle.std.specs.Prelude.{◌≡◌, ℕ, ℤ, ◌≤◌, ◌||◌, nat_lt, if◌then◌else◌, Option, None, Some, List, [], ◌∷◌, ◌++◌, length, flat_map, map, Bool, codes, decimal}
use Rattle.std.specs.Int.{from_le_bytes, w32}
use Rattle.std.specs.Fmt.{signed_decimal}
use Rattle.hex.specs.Hex.{encode_lower}
use Rattle.mongo_bson.specs.declared.raw_value.ObjectId.{ObjectId}
use Rattle.mongo_wire.specs.declared.error.ErrorKind.{ErrorKind}
use Rattle.mongo_command.specs.declared.server_type.ServerType.{ServerType}
use Rattle.mongo_command.specs.declared.stream_description.StreamDescription.{StreamDescription}
use Rattle.mongo_establish.specs.declared.generation.ConnectionGeneration.{ConnectionGeneration}
use Rattle.mongo_establish.specs.declared.generation.ConnectionGeneration.TheVariants.{Normal, LoadBalanced}
use Rattle.mongo_establish.specs.declared.establisher.HandshakePhase.{HandshakePhase}
use Rattle.mongo_establish.specs.declared.establisher.HandshakePhase.TheVariants.{PreHello, PostHello}
use Rattle.mongo_settings.specs.Line.{line, text_word, spelled_or_dash}
use Rattle.mongo_settings.specs.Names.{type_name, kind_name, reason_name, error_code, error_text}

-- `sent` and a frame in hex
unfoldable pub sent_line : List ℕ → List ℕ
sent_line frame = line (codes "sent") (encode_lower frame ∷ [])

abbrev pub sent_lines : List (List ℕ) → List ℕ
sent_lines frames = flat_map sent_line frames

-- a frame's first four bytes are its length, low byte first, by the OP_MSG specification; the header is 16 bytes long
pub record CountsItself (frame : List ℕ) : Type 0 where
  pub header : 16 ≤ length frame
  pub counted : from_le_bytes w32 frame ≡ length frame

-- a length that a frame can have in this room
abbrev pub fitting_length : ℕ → ℕ → Option ℕ
fitting_length room n = if nat_lt room 16 then None else (if nat_lt n 16 || nat_lt room n then None else Some n)

-- the length of the frame that the bytes begin with, where all of it is there
abbrev pub front_length : List ℕ → Option ℕ
front_length bytes = fitting_length (length bytes) (from_le_bytes w32 bytes)

-- `read` and how many bytes of the replies were taken
unfoldable pub read_count_line : ℕ → List ℕ
read_count_line count = line (codes "read") (decimal count ∷ [])

-- the cause of a refusal: its name, the name of the fault inside, the server's number and the text that it carries
unfoldable pub kind_line : ErrorKind → List ℕ
kind_line kind = line (codes "kind") (kind_name kind ∷ [])

unfoldable pub reason_line : ErrorKind → List ℕ
reason_line kind = line (codes "reason") (spelled_or_dash (λ name. name) (reason_name kind) ∷ [])

unfoldable pub code_line : ErrorKind → List ℕ
code_line kind = line (codes "code") (spelled_or_dash signed_decimal (error_code kind) ∷ [])

unfoldable pub text_line : ErrorKind → List ℕ
text_line kind = line (codes "text") (spelled_or_dash text_word (error_text kind) ∷ [])

abbrev pub cause_lines : ErrorKind → List ℕ
cause_lines kind = kind_line kind ++ (reason_line kind ++ (code_line kind ++ text_line kind))

-- the description of the server: its versions of the wire protocol, least and greatest
unfoldable pub wire_line : Option ℤ → Option ℤ → List ℕ
wire_line minimum maximum = line (codes "wire") (spelled_or_dash signed_decimal minimum ∷ spelled_or_dash signed_decimal maximum ∷ [])

-- how many login mechanisms the user has, and each
abbrev pub mechanism_words : Option (List (List ℕ)) → List (List ℕ)
mechanism_words None = codes "-" ∷ []
mechanism_words (Some names) = decimal (length names) ∷ map text_word names

unfoldable pub mechanisms_line : Option (List (List ℕ)) → List ℕ
mechanisms_line names = line (codes "mechs") (mechanism_words names)

-- how long a session lives unused, in seconds
unfoldable pub session_line : Option ℕ → List ℕ
session_line seconds = line (codes "session") (spelled_or_dash decimal seconds ∷ [])

-- the greatest document, number of writes in a batch, and frame
unfoldable pub sizes_line : ℤ → ℤ → ℤ → List ℕ
sizes_line document batch frame = line (codes "sizes") (signed_decimal document ∷ signed_decimal batch ∷ signed_decimal frame ∷ [])

abbrev pub boolean_word : Bool → List ℕ
boolean_word boolean = if boolean then codes "true" else codes "false"

-- whether the server understands `hello`
unfoldable pub hello_ok_line : Bool → List ℕ
hello_ok_line boolean = line (codes "hello-ok") (boolean_word boolean ∷ [])

-- the service behind a load balancer
unfoldable pub service_line : Option ObjectId → List ℕ
service_line id = line (codes "service") (spelled_or_dash (λ service. encode_lower service.0) id ∷ [])

-- the server's number for the connection
unfoldable pub server_id_line : Option ℤ → List ℕ
server_id_line number = line (codes "server-id") (spelled_or_dash signed_decimal number ∷ [])

-- the kind of server
unfoldable pub type_line : ServerType → List ℕ
type_line server_type = line (codes "type") (type_name server_type ∷ [])

-- a generation, behind the word for whose it is
unfoldable pub numbered_generation_line : List ℕ → ℕ → List ℕ
numbered_generation_line whose number = line (codes "generation") (whose ∷ decimal number ∷ [])

-- the generation of a connection, which is its pool's or a service's
abbrev pub generation_line : ConnectionGeneration → List ℕ
generation_line (Normal number) = numbered_generation_line (codes "normal") number
generation_line (LoadBalanced number service) = numbered_generation_line (codes "service") number

-- what kind of server it is, and what it speaks
abbrev pub server_lines : StreamDescription → List ℕ
server_lines d = type_line d.initial_server_type ++ (wire_line d.min_wire_version d.max_wire_version ++ (mechanisms_line d.sasl_supported_mechs ++ session_line d.logical_session_timeout))

-- how much it takes, and where it stands
abbrev pub limit_lines : StreamDescription → List ℕ
limit_lines d = sizes_line d.max_bson_object_size d.max_write_batch_size d.max_message_size_bytes ++ (hello_ok_line d.hello_ok ++ service_line d.service_id)

-- what a server says of itself
abbrev pub description_lines : StreamDescription → List ℕ
description_lines d = server_lines d ++ limit_lines d

-- a connection was made
abbrev pub accepted_lines : StreamDescription → ConnectionGeneration → Option ℤ → List ℕ
accepted_lines description generation connection_id = line (codes "ok") [] ++ (description_lines description ++ (generation_line generation ++ server_id_line connection_id))

-- how far an establishment had come
abbrev pub phase_name : HandshakePhase → List ℕ
phase_name (PreHello generation) = codes "PreHello"
phase_name (PostHello generation) = codes "PostHello"

unfoldable pub phase_line : HandshakePhase → List ℕ
phase_line phase = line (codes "phase") (phase_name phase ∷ [])

-- an establishment was refused
abbrev pub refused_lines : HandshakePhase → ErrorKind → List ℕ
refused_lines phase kind = line (codes "refused") [] ++ (phase_line phase ++ cause_lines kind)
