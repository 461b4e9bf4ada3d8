-- What a client wrote: two frames, of which the second carries its last message.
use Rattle.std.specs.Prelude.{◌≡◌, ℕ, pos, ◌≤ℤ◌, List, ◌++◌, length}
use Rattle.mongo_bson.specs.Document.{Element, IsDocument}
use Rattle.mongo_bson.specs.declared.raw_value.RawValue.{RawValue}
use Rattle.mongo_bson.specs.declared.raw_value.RawValue.TheVariants.{Binary}
use Rattle.mongo_wire.specs.Bytes.{first_maximum}
use Rattle.mongo_wire.specs.Frame.{Frame, IsFrame}
use Rattle.mongo_command.specs.Field.{field_of, Required}
use Rattle.mongo_sasl.specs.Reply.{ReadsGeneric}
use Rattle.mongo_sasl.specs.Keys.{payload_key}

-- the value is a binary with these bytes
abbrev pub IsBinaryOf : List ℕ → RawValue → Type 0
IsBinaryOf content (Binary subtype bytes) = bytes.now ≡ content
IsBinaryOf content value = ⊥

-- the document's field `payload` is a binary with these bytes
pub record CarriesPayload (payload document : List ℕ) : Type 0 where
  pub elements : List Element
  pub is_document : IsDocument document elements
  pub payload_is : Required ReadsGeneric (field_of payload_key elements) payload

-- the bytes are two frames, and the second one's document carries the payload
pub record CarriesPayloadLast (payload bytes : List ℕ) : Type 0 where
  pub first : List ℕ
  pub second : List ℕ
  pub joined : bytes ≡ first ++ second
  pub first_parts : Frame
  pub first_is : IsFrame first first_parts
  pub first_within : pos (length first) ≤ℤ first_maximum
  pub second_parts : Frame
  pub second_is : IsFrame second second_parts
  pub second_within : pos (length second) ≤ℤ first_maximum
  pub carried : CarriesPayload payload second_parts.body

-- the bytes are two such frames, whatever the payload
abbrev pub CarriesAnyLast : List ℕ → Type 0
CarriesAnyLast bytes = (payload : List ℕ) × CarriesPayloadLast payload bytes
