-- A reply that borrows its document says what the reply that owns its memory says.
use Rattle.std.specs.Prelude.{ℕ, Result, Ok, Err, List}
use Rattle.std.specs.Borrow.{Bor}
use Rattle.mongo_bson.specs.declared.owned_value.OwnedValue.{OwnedValue}
use Rattle.mongo_wire.specs.declared.auth_fault.AuthFault.TheVariants.{Malformed}
use Rattle.mongo_wire.specs.declared.error.ErrorKind.{ErrorKind}
use Rattle.mongo_wire.specs.declared.error.ErrorKind.TheVariants.{Authentication, OutOfMemory}
use Rattle.mongo_command.specs.declared.field.FieldFault.{FieldFault}
use Rattle.mongo_command.specs.declared.field.FieldFault.TheVariants.{Unreadable, OutOfMemory as NoMemory}
use Rattle.mongo_sasl.specs.declared.sasl_response.SaslResponse.{SaslResponse}
use Rattle.mongo_sasl.specs.declared.sasl_view.SaslView.{SaslView}

abbrev pub owned_value_of : ℕ × Bor (List ℕ) → OwnedValue
owned_value_of borrowed = record { kind = borrowed.0; bytes = borrowed.1.now }

abbrev pub sasl_response_of : SaslView → SaslResponse
sasl_response_of view = record { conversation_id = record { kind = view.conversation_kind; bytes = view.conversation_bytes.now }; done = view.done; payload = view.payload.now }

-- what a reader of borrowed values answers, as what it says
abbrev pub read_as : {A B : Type 0} → (A → B) → Result A FieldFault → Result B FieldFault
read_as says (Ok value) = Ok (says value)
read_as says (Err fault) = Err fault

-- what fields that can't be read are refused as
abbrev pub kind_of_field_fault : FieldFault → ErrorKind
kind_of_field_fault Unreadable = Authentication Malformed
kind_of_field_fault NoMemory = OutOfMemory
