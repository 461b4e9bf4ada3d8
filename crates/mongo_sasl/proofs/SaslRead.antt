-- What the readers of a login reply answer, from what they found.
use Rattle.std.proofs.Common.{◌≡◌, ℕ, inl, inr, Option, None, Some, Result, Ok, Err, List, refl, sym, ap, ◌∙◌, subst}
use Rattle.std.specs.Borrow.{Bor}
use Rattle.std.specs.Option.{ok_or}
use Rattle.std.specs.Result.{IsErrAnd}
use Rattle.mongo_bson.specs.Document.{Element, IsDocument, IsWellFormed}
use Rattle.mongo_bson.specs.Framed.{element_bytes}
use Rattle.mongo_bson.specs.Find.{FindsBytes}
use Rattle.mongo_bson.specs.declared.owned_value.OwnedValue.{OwnedValue}
use Rattle.mongo_wire.specs.declared.auth_fault.AuthFault.TheVariants.{Malformed, Refused}
use Rattle.mongo_wire.specs.declared.error.ErrorKind.{ErrorKind}
use Rattle.mongo_wire.specs.declared.error.ErrorKind.TheVariants.{Authentication, OutOfMemory}
use Rattle.mongo_command.specs.declared.field.FieldFault.{FieldFault}
use Rattle.mongo_command.specs.declared.field.FieldFault.TheVariants.{Unreadable, OutOfMemory as NoMemory}
use Rattle.mongo_command.specs.Conversation.{HasNone}
use Rattle.mongo_command.specs.Field.{field_of, Required}
use Rattle.mongo_command.specs.Fields.{Answers, IsValueOf}
use Rattle.mongo_command.specs.Keys.{ok_key}
use Rattle.mongo_sasl.specs.declared.sasl_response.SaslResponse.{SaslResponse}
use Rattle.mongo_sasl.specs.Reply.{Succeeded, SaysFailure, ReadsValue, IsSaslTable, IsSaslReply, IsSaslFailure, SaslRow, SaslRefused, IsUnsuccessful}
use Rattle.mongo_sasl.specs.View.{owned_value_of, read_as, kind_of_field_fault}
use Rattle.mongo_command.proofs.FirstOfKey.{bytes_found, bytes_none}
use Rattle.mongo_command.proofs.Plans.{no_of}
use Rattle.mongo_sasl.proofs.OneReply.{same_elements, not_both_replies}

-- ---- the whole reply

failed_here : (reply text : List ℕ) (elements : List Element) → IsWellFormed reply elements → IsSaslFailure reply text → SaysFailure (field_of ok_key elements)
failed_here reply text elements well is = subst (λ es. SaysFailure (field_of ok_key es)) (same_elements reply is.elements elements is.well_formed well) is.failed

succeeded_here : (reply : List ℕ) (elements : List Element) (sasl : SaslResponse) → IsWellFormed reply elements → IsSaslReply reply sasl → Succeeded (field_of ok_key elements)
succeeded_here reply elements sasl well is = subst (λ es. Succeeded (field_of ok_key es)) (same_elements reply is.elements elements is.well_formed well) is.succeeded

-- what says neither is malformed
malformed : (reply : List ℕ) → HasNone (IsSaslReply reply) → HasNone (IsSaslFailure reply) → SaslRow reply (Authentication Malformed)
malformed reply no_reply no_failure = (Malformed, refl, inr (no_of Refused (IsSaslFailure reply) no_failure, (refl, no_reply)))

-- what isn't a success isn't a reply
pub unsuccessful : (reply : List ℕ) (elements : List Element) (kind : ErrorKind) → IsWellFormed reply elements → IsUnsuccessful elements kind → SaslRefused reply kind
unsuccessful reply elements (Authentication Malformed) well is =
    inl (malformed reply (λ sasl reads. is.0 (succeeded_here reply elements sasl well reads)) (λ text fails. is.1 (failed_here reply text elements well fails)))
unsuccessful reply elements (Authentication (Refused text)) well is =
    let fails : IsSaslFailure reply text = record { elements = elements; well_formed = well; failed = is.0; text_is = is.1 } in
    inl (Refused text, refl, inl (text, refl, fails))
unsuccessful reply elements OutOfMemory well is = inr refl
unsuccessful reply elements (Authentication fault) well is = absurd is
unsuccessful reply elements kind well is = absurd is

-- nor is a success without its table
pub no_sasl_table : (reply : List ℕ) (elements : List Element) (fault : FieldFault) → IsWellFormed reply elements → Succeeded (field_of ok_key elements) → Answers IsSaslTable elements (Err fault) → SaslRefused reply (kind_of_field_fault fault)
no_sasl_table reply elements Unreadable well succeeded none =
    inl
    (malformed reply (λ sasl is. none sasl (subst (λ es. IsSaslTable es sasl) (same_elements reply is.elements elements is.well_formed well) is.table))
    (λ text is. not_both_replies (field_of ok_key elements) succeeded (failed_here reply text elements well is)))
no_sasl_table reply elements NoMemory well succeeded none = inr refl

-- ---- the fields of the table

pub id_read : (found : Option Element) (e : Element) (value : ℕ × Bor (List ℕ)) → found ≡ Some e → value.0 ≡ e.kind → value.1.now ≡ e.value → Required ReadsValue found (record { kind = value.0; bytes = value.1.now })
unfolding Required
id_read None e value is kind bytes = let none : None ≡ Some e = is in absurd cc
id_read (Some f) e value is kind bytes = let same : Some f ≡ Some e = is in let here : f ≡ e = cc in (kind ∙ ap (λ x. x.kind) (sym here), bytes ∙ ap (λ x. x.value) (sym here))

pub no_conversation_id : (found : Option Element) → found ≡ None → (value : OwnedValue) → Required ReadsValue found value → ⊥
unfolding Required
no_conversation_id None is value reads = reads
no_conversation_id (Some e) is value reads = let some : Some e ≡ None = is in absurd cc

-- the id that is found, or that there is none
pub id_answer : (b key : List ℕ) (elements : List Element) (found : Option (ℕ × Bor (List ℕ))) → IsDocument b elements → FindsBytes (element_bytes b) key found → Answers (Required ReadsValue) (field_of key elements) (read_as owned_value_of (ok_or found Unreadable))
id_answer b key elements None is none = no_conversation_id (field_of key elements) (bytes_none b key elements is none)
id_answer b key elements (Some value) is first = id_read (field_of key elements) (record { kind = value.0; key = key; value = value.1.now }) value (bytes_found b key elements value is first) refl refl

-- a fault of a borrowed value is a fault of what it says
pub as_err : {A B : Type 0} (says : A → B) (answer : Result A FieldFault) (fault : FieldFault) → IsErrAnd answer (λ e. e ≡ fault) → IsErrAnd (read_as says answer) (λ e. e ≡ fault)
as_err says (Ok value) fault passed = passed
as_err says (Err e) fault passed = passed

-- a field that is absent reads as nothing
pub no_field : {A : Type 0} (Reads : Element → A → Type 0) (found : Option Element) → IsValueOf found None → (value : A) → Required Reads found value → ⊥
unfolding Required
no_field Reads None is value reads = reads
no_field Reads (Some e) is value reads = is
