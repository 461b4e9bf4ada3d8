-- The reply to a command of a login, by the authentication specification and the server's `saslStart` and
-- `saslContinue`: it succeeded, or it says why not, or it is malformed.
use Rattle.std.specs.Prelude.{◌≡◌, ◌≢◌, ℕ, ℤ, pos, ◌==◌, ◌⊎◌, Option, None, Some, List, drop, slice_index, codes, if◌then◌else◌, ⊤}
use Rattle.mongo_bson.specs.Document.{Element, IsWellFormed, text_of}
use Rattle.mongo_bson.specs.Number.{int_of_kind}
use Rattle.mongo_bson.specs.declared.owned_value.OwnedValue.{OwnedValue}
use Rattle.mongo_wire.specs.declared.auth_fault.AuthFault.TheVariants.{Malformed, Refused}
use Rattle.mongo_wire.specs.declared.error.ErrorKind.{ErrorKind}
use Rattle.mongo_wire.specs.declared.error.ErrorKind.TheVariants.{Authentication, OutOfMemory}
use Rattle.mongo_command.specs.Conversation.{HasNone, or_else, row_for, row_of}
use Rattle.mongo_command.specs.Field.{field_of, Required, ReadsBoolean}
use Rattle.mongo_command.specs.Keys.{errmsg_key, ok_key}
use Rattle.mongo_sasl.specs.declared.sasl_response.SaslResponse.{SaslResponse}
use Rattle.mongo_sasl.specs.Keys.{conversation_id_key, done_key, payload_key}

-- ---- whether the command succeeded

-- `ok` is absent, or is the number 1
abbrev pub Succeeded : Option Element → Type 0
Succeeded None = ⊤
Succeeded (Some ok) = int_of_kind ok.kind ok.value ≡ Some (pos 1)

-- `ok` is another number
abbrev pub SaysFailure : Option Element → Type 0
SaysFailure None = ⊥
SaysFailure (Some ok) = (number : ℤ) × (int_of_kind ok.kind ok.value ≡ Some number) × (number ≢ pos 1)

-- what is said of a failure that says nothing itself
abbrev pub untold_failure : List ℕ
untold_failure = codes "Authentication failure"

-- what a failure says: `errmsg`, where it is a text
abbrev pub failure_text : Option Element → List ℕ
failure_text None = untold_failure
failure_text (Some errmsg) = if errmsg.kind == 0x02 then text_of errmsg.value else untold_failure

-- ---- the fields of a success

-- a value of any kind, as it lies
abbrev pub ReadsValue : Element → OwnedValue → Type 0
ReadsValue e value = (value.kind ≡ e.kind) × (value.bytes ≡ e.value)

-- the bytes of a binary of the generic subtype, 0
abbrev pub ReadsGeneric : Element → List ℕ → Type 0
ReadsGeneric e bytes = (e.kind ≡ 0x05) × (slice_index e.value 4 ≡ 0) × (bytes ≡ drop 5 e.value)

pub record IsSaslTable (elements : List Element) (sasl : SaslResponse) : Type 0 where
  pub conversation_id : Required ReadsValue (field_of conversation_id_key elements) sasl.conversation_id
  pub done : Required ReadsBoolean (field_of done_key elements) sasl.done
  pub payload : Required ReadsGeneric (field_of payload_key elements) sasl.payload

-- ---- the reply

-- a well-formed document that succeeded, and what it says
pub record IsSaslReply (reply : List ℕ) (sasl : SaslResponse) : Type 0 where
  pub elements : List Element
  pub well_formed : IsWellFormed reply elements
  pub succeeded : Succeeded (field_of ok_key elements)
  pub table : IsSaslTable elements sasl

-- a well-formed document that failed, whatever else it says
pub record IsSaslFailure (reply text : List ℕ) : Type 0 where
  pub elements : List Element
  pub well_formed : IsWellFormed reply elements
  pub failed : SaysFailure (field_of ok_key elements)
  pub text_is : text ≡ failure_text (field_of errmsg_key elements)

-- why a reply is refused: for what a failure says; else, where it is no success, as malformed: it isn't well formed, or `ok` is no
-- whole number, or it is absent or 1, and a field is absent or of another kind
abbrev pub SaslRow : List ℕ → ErrorKind → Type 0
SaslRow reply =
    row_of Authentication
    (or_else (row_of Refused (IsSaslFailure reply))
    (row_for Malformed (HasNone (IsSaslReply reply))))

-- why a reply wasn't read: its row, or want of memory
abbrev pub SaslRefused : List ℕ → ErrorKind → Type 0
SaslRefused reply kind = SaslRow reply kind ⊎ (kind ≡ OutOfMemory)

-- ---- the readers' words

-- what a failure is refused as, by its `errmsg`
abbrev pub IsFailureOf : Option Element → ErrorKind → Type 0
IsFailureOf errmsg (Authentication (Refused text)) = text ≡ failure_text errmsg
IsFailureOf errmsg OutOfMemory = ⊤
IsFailureOf errmsg kind = ⊥

-- why elements are no success's: `ok` is no number, or another one, or memory ran out
abbrev pub IsUnsuccessful : List Element → ErrorKind → Type 0
IsUnsuccessful elements (Authentication Malformed) = (Succeeded (field_of ok_key elements) → ⊥) × (SaysFailure (field_of ok_key elements) → ⊥)
IsUnsuccessful elements (Authentication (Refused text)) = SaysFailure (field_of ok_key elements) × (text ≡ failure_text (field_of errmsg_key elements))
IsUnsuccessful elements OutOfMemory = ⊤
IsUnsuccessful elements kind = ⊥
