-- The header of a frame, by the OP_MSG specification: four int32, low byte first, which are the length of the whole
-- frame, the request id, the id that it responds to, and the op code.
use Rattle.std.specs.Prelude.{ℕ, ℤ, pos, Option, None, Some, List, ◌++◌, drop, unwrap_or, if◌then◌else◌}
use Rattle.std.specs.Ordering.{int_eq}
use Rattle.std.specs.Int.{from_le_bytes, cast_signed, w32}
use Rattle.mongo_wire.specs.Frame.{int32, message_code}
use Rattle.mongo_wire.specs.Bytes.{first_maximum}
use Rattle.mongo_wire.specs.declared.header.Header.{Header}
use Rattle.mongo_wire.specs.declared.op_code.OpCode.{OpCode}
use Rattle.mongo_wire.specs.declared.op_code.OpCode.TheVariants.{Reply, Query, Message, Compressed}

-- how many bytes a header has
abbrev pub header_length : ℕ
header_length = 16

-- the number that stands at a place: unsigned, and signed
abbrev pub number_at : ℕ → List ℕ → ℕ
number_at place bytes = from_le_bytes w32 (drop place bytes)

abbrev pub signed_at : ℕ → List ℕ → ℤ
signed_at place bytes = cast_signed w32 (number_at place bytes)

-- the maximum that holds where none is given
abbrev pub maximum_of : Option ℤ → ℤ
maximum_of maximum = unwrap_or maximum first_maximum

-- the op codes and their numbers
abbrev pub code_number : OpCode → ℤ
code_number Reply = pos 1
code_number Query = pos 2004
code_number Compressed = pos 2012
code_number Message = pos message_code

-- the op code that has this number
abbrev pub op_code_of : ℤ → Option OpCode
op_code_of number =
    if int_eq number (code_number Reply) then Some Reply
    else if int_eq number (code_number Query) then Some Query
    else if int_eq number (code_number Compressed) then Some Compressed
    else if int_eq number (code_number Message) then Some Message
    else None

-- a header's bytes
abbrev pub header_bytes : Header → List ℕ
header_bytes h = int32 h.length ++ (int32 h.request_id ++ (int32 h.response_to ++ int32 (code_number h.op_code)))

-- the header that stands at the front of bytes, with this op code
abbrev pub header_with : List ℕ → OpCode → Header
header_with bytes code = record { length = signed_at 0 bytes; request_id = signed_at 4 bytes; response_to = signed_at 8 bytes; op_code = code }
