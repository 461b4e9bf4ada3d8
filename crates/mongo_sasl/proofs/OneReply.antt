-- A document says one thing as the reply to a login command, and is refused for one reason at most.
use Rattle.std.proofs.Common.{◌≡◌, ℕ, pos, Bool, Option, None, Some, List, sym, ap, ◌∙◌, subst}
use Rattle.mongo_bson.specs.Document.{Element, IsWellFormed}
use Rattle.mongo_bson.specs.declared.owned_value.OwnedValue.{OwnedValue}
use Rattle.mongo_bson.proofs.OneElement.{one_document}
use Rattle.mongo_wire.specs.declared.auth_fault.AuthFault.TheVariants.{Malformed, Refused}
use Rattle.mongo_wire.specs.declared.error.ErrorKind.TheVariants.{Authentication}
use Rattle.mongo_command.specs.Field.{field_of, Required, ReadsBoolean}
use Rattle.mongo_command.specs.Conversation.{IsOne, HasNone}
use Rattle.mongo_command.specs.Keys.{errmsg_key, ok_key}
use Rattle.mongo_command.proofs.OneField.{boolean_one}
use Rattle.mongo_command.proofs.Plans.{no_of, no_row, none_else, one_else, one_row_of, one_row}
use Rattle.mongo_sasl.specs.declared.sasl_response.SaslResponse.{SaslResponse}
use Rattle.mongo_sasl.specs.Reply.{Succeeded, SaysFailure, failure_text, ReadsValue, ReadsGeneric, IsSaslTable, IsSaslReply, IsSaslFailure, SaslRow}
use Rattle.mongo_sasl.specs.Keys.{conversation_id_key, done_key, payload_key}

one_required : {A : Type 0} (Reads : Element → A → Type 0) → ((e : Element) (a b : A) → Reads e a → Reads e b → a ≡ b) → (found : Option Element) (a b : A) → Required Reads found a → Required Reads found b → a ≡ b
unfolding Required
one_required Reads one None a b p q = absurd p
one_required Reads one (Some e) a b p q = one e a b p q

one_value : (e : Element) (a b : OwnedValue) → ReadsValue e a → ReadsValue e b → a ≡ b
one_value e a b p q =
    let kinds : a.kind ≡ b.kind = p.0 ∙ sym q.0 in
    let bytes : a.bytes ≡ b.bytes = p.1 ∙ sym q.1 in
    ap (λ (k : ℕ). let v : OwnedValue = record { kind = k; bytes = a.bytes } in v) kinds ∙ ap (λ (bs : List ℕ). let v : OwnedValue = record { kind = b.kind; bytes = bs } in v) bytes

one_generic : (e : Element) (a b : List ℕ) → ReadsGeneric e a → ReadsGeneric e b → a ≡ b
one_generic e a b p q = p.2 ∙ sym q.2

made : OwnedValue → Bool → List ℕ → SaslResponse
made id done payload = record { conversation_id = id; done = done; payload = payload }

one_table : (elements : List Element) (a b : SaslResponse) → IsSaslTable elements a → IsSaslTable elements b → a ≡ b
unfolding made
one_table elements a b p q =
    let ids = one_required ReadsValue one_value (field_of conversation_id_key elements) a.conversation_id b.conversation_id p.conversation_id q.conversation_id in
    let dones = one_required ReadsBoolean boolean_one.one (field_of done_key elements) a.done b.done p.done q.done in
    let payloads = one_required ReadsGeneric one_generic (field_of payload_key elements) a.payload b.payload p.payload q.payload in
    ap (λ id. made id a.done a.payload) ids ∙ ap (λ done. made b.conversation_id done a.payload) dones ∙ ap (λ payload. made b.conversation_id b.done payload) payloads

pub same_elements : (reply : List ℕ) (es fs : List Element) → IsWellFormed reply es → IsWellFormed reply fs → es ≡ fs
same_elements reply es fs p q = one_document reply es fs p.document q.document

-- a reply says one thing
pub one_sasl_reply : (reply : List ℕ) → IsOne (IsSaslReply reply)
one_sasl_reply reply = λ a b p q.
    one_table q.elements a b (subst (λ es. IsSaslTable es a) (same_elements reply p.elements q.elements p.well_formed q.well_formed) p.table) q.table

one_failure : (reply a b : List ℕ) → IsSaslFailure reply a → IsSaslFailure reply b → a ≡ b
one_failure reply a b p q = p.text_is ∙ ap (λ es. failure_text (field_of errmsg_key es)) (same_elements reply p.elements q.elements p.well_formed q.well_formed) ∙ sym q.text_is

-- what succeeded didn't fail
pub not_both_replies : (ok : Option Element) → Succeeded ok → SaysFailure ok → ⊥
not_both_replies None succeeded failed = absurd failed
not_both_replies (Some e) succeeded failed = let same : Some (pos 1) ≡ Some failed.0 = sym succeeded ∙ failed.1 in failed.2 cc

success_no_failure : (reply text : List ℕ) (sasl : SaslResponse) → IsSaslReply reply sasl → IsSaslFailure reply text → ⊥
success_no_failure reply text sasl p q =
    not_both_replies (field_of ok_key q.elements) (subst (λ es. Succeeded (field_of ok_key es)) (same_elements reply p.elements q.elements p.well_formed q.well_formed) p.succeeded) q.failed

-- a reply is refused for one reason
pub one_sasl_row : (reply : List ℕ) → IsOne (SaslRow reply)
one_sasl_row reply = one_row_of Authentication _ (one_else _ _ (one_row_of Refused (IsSaslFailure reply) (λ a b p q. one_failure reply a b p q)) (one_row Malformed _))

-- a reply that says something isn't refused
pub sasl_reply_no_row : (reply : List ℕ) (sasl : SaslResponse) → IsSaslReply reply sasl → HasNone (SaslRow reply)
sasl_reply_no_row reply sasl is =
    no_of Authentication _
    (none_else _ _ (no_of Refused (IsSaslFailure reply) (λ text fails. success_no_failure reply text sasl is fails))
    (no_row Malformed _ (λ none. none sasl is)))
