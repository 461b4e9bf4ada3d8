-- A reply carries one message of the server, or is refused for one reason.
use Rattle.std.proofs.Common.{◌≡◌, ℕ, Bool, Option, None, Some, Ok, List, ◌∷◌, refl, sym, ap, ◌∙◌, subst, arith}
use Rattle.std.specs.Str.Parse.{digits_value, without_leading_plus}
use Rattle.base64.specs.Engines.{standard}
use Rattle.base64.specs.GeneralPurpose.{IsBytes, decode_of}
use Rattle.base64.proofs.EngineFacts.{decode_of-encode_of}
use Rattle.mongo_bson.specs.declared.owned_value.OwnedValue.{OwnedValue}
use Rattle.mongo_wire.specs.declared.error.ErrorKind.TheVariants.{Authentication}
use Rattle.mongo_command.specs.Conversation.{IsOne, HasNone}
use Rattle.mongo_command.proofs.Plans.{no_of, no_row, none_else, one_else, one_row_of, one_row}
use Rattle.mongo_sasl.specs.declared.sasl_response.SaslResponse.{SaslResponse}
use Rattle.mongo_sasl.specs.Reply.{SaslRow}
use Rattle.mongo_sasl.proofs.OneReply.{one_sasl_reply, one_sasl_row, sasl_reply_no_row}
use Rattle.mongo_scram.specs.declared.server_first.ServerFirst.{ServerFirst}
use Rattle.mongo_scram.specs.declared.server_final.ServerFinal.{ServerFinal}
use Rattle.mongo_scram.specs.declared.server_final.ServerFinalBody.{ServerFinalBody}
use Rattle.mongo_scram.specs.declared.server_final.ServerFinalBody.TheVariants.{Error, Verifier}
use Rattle.mongo_scram.specs.Base64.{base64_of, Decodes}
use Rattle.mongo_scram.specs.ServerMessages.{IsServerFirst, IsIterationCount, ServerFirstTextRow, SaysAttribute, SaysFinal}
use Rattle.mongo_scram.specs.Replies.{CarriesFirst, FirstPayloadRow, FirstReplyRow, CarriesFinal, FinalPayloadRow, FinalReplyRow}
use Rattle.mongo_scram.proofs.Parts.{SameParts, one_parts, heads}

-- ---- texts

-- a base64 text is that of one list of bytes
pub one_base64 : (a b : List ℕ) → IsBytes a → IsBytes b → base64_of a ≡ base64_of b → a ≡ b
unfolding base64_of
one_base64 a b p q same =
    let is : Ok a ≡ Ok b = sym (decode_of-encode_of standard a refl p) ∙ ap (λ text. decode_of standard text) same ∙ decode_of-encode_of standard b refl q in cc

-- what follows a letter and `=`
behind : (letter equals : ℕ) (x y : List ℕ) → letter ∷ equals ∷ x ≡ letter ∷ equals ∷ y → x ≡ y
behind letter equals x y is = cc

another_letter : (equals : ℕ) (x y : List ℕ) → 101 ∷ equals ∷ x ≡ 118 ∷ equals ∷ y → ⊥
another_letter equals x y is = let never = heads 101 118 (equals ∷ x) (equals ∷ y) is in absurd (omega (arith, never))

-- ---- the server's first message

one_server_first : (message a b c x y z : List ℕ) → IsServerFirst message a b c → IsServerFirst message x y z → SameParts a b c x y z
one_server_first message a b c x y z p q =
    let parts = one_parts message _ _ _ _ _ _ p.parts q.parts in
    record {
      first = behind 114 61 a x parts.first;
      second = one_base64 b y p.bytes q.bytes (behind 115 61 (base64_of b) (base64_of y) parts.second);
      third = behind 105 61 c z parts.third;
    }

abbrev first_made : OwnedValue → Bool → List ℕ → List ℕ → List ℕ → ℕ → ServerFirst
first_made id done message nonce salt i = record { conversation_id = id; done = done; message = message; nonce = nonce; salt = salt; i = i }

same_first : (c d : OwnedValue) (e f : Bool) (m n o p s t : List ℕ) (i j : ℕ) → c ≡ d → e ≡ f → m ≡ n → o ≡ p → s ≡ t → i ≡ j → first_made c e m o s i ≡ first_made d f n p t j
same_first c d e f m n o p s t i j a b g h k l = λ x. first_made (a x) (b x) (g x) (h x) (k x) (l x)

pub one_carried_first : (reply : List ℕ) → IsOne (CarriesFirst reply)
one_carried_first reply = λ a b p q.
    let same = one_sasl_reply reply p.sasl q.sasl p.is_reply q.is_reply in
    let here : IsServerFirst q.sasl.payload a.nonce a.salt p.count = subst (λ (sasl : SaslResponse). IsServerFirst sasl.payload a.nonce a.salt p.count) same p.is_first in
    let parts = one_server_first q.sasl.payload a.nonce a.salt p.count b.nonce b.salt q.count here q.is_first in
    same_first a.conversation_id b.conversation_id a.done b.done a.message b.message a.nonce b.nonce a.salt b.salt a.i b.i
    (p.conversation ∙ ap (λ (sasl : SaslResponse). sasl.conversation_id) same ∙ sym q.conversation)
    (p.done ∙ ap (λ (sasl : SaslResponse). sasl.done) same ∙ sym q.done)
    (p.message ∙ ap (λ (sasl : SaslResponse). sasl.payload) same ∙ sym q.message)
    parts.first
    parts.second
    (sym p.is_count.1 ∙ ap (λ text. digits_value 10 (without_leading_plus text)) parts.third ∙ q.is_count.1)

one_first_text_row : (message : List ℕ) → IsOne (ServerFirstTextRow message)
one_first_text_row message = one_else _ _ (one_row _ _) (one_row _ _)

one_first_payload_row : (reply : List ℕ) → IsOne (FirstPayloadRow reply)
one_first_payload_row reply = one_row_of Authentication _ (λ a b p q.
    let same = one_sasl_reply reply p.0 q.0 p.1 q.1 in
    one_first_text_row q.0.payload a b (subst (λ (sasl : SaslResponse). ServerFirstTextRow sasl.payload a) same p.2) q.2)

pub one_first_row : (reply : List ℕ) → IsOne (FirstReplyRow reply)
one_first_row reply = one_else (SaslRow reply) (FirstPayloadRow reply) (one_sasl_row reply) (one_first_payload_row reply)

no_first_text_row : (message nonce salt count : List ℕ) (i : ℕ) → IsServerFirst message nonce salt count → IsIterationCount count i → HasNone (ServerFirstTextRow message)
no_first_text_row message nonce salt count i is counts =
    none_else _ _ (no_row _ _ (λ none. none nonce salt count is))
    (no_row _ _ (λ row. row.4 i (subst (λ text. IsIterationCount text i) (one_server_first message nonce salt count row.0 row.1 row.2 is row.3).third counts)))

no_first_payload_row : (reply : List ℕ) (first : ServerFirst) → CarriesFirst reply first → HasNone (FirstPayloadRow reply)
no_first_payload_row reply first is = no_of Authentication _ (λ fault row.
    let same = one_sasl_reply reply row.0 is.sasl row.1 is.is_reply in
    no_first_text_row is.sasl.payload first.nonce first.salt is.count first.i is.is_first is.is_count fault (subst (λ (sasl : SaslResponse). ServerFirstTextRow sasl.payload fault) same row.2))

-- a reply that carries one isn't refused
pub no_first_row : (reply : List ℕ) (first : ServerFirst) → CarriesFirst reply first → HasNone (FirstReplyRow reply)
no_first_row reply first is = none_else _ _ (sasl_reply_no_row reply is.sasl is.is_reply) (no_first_payload_row reply first is)

-- ---- the server's last message

one_decoded : (text : List ℕ) (a b : Option (List ℕ)) → Decodes text a → Decodes text b → a ≡ b
one_decoded text None None p q = refl
one_decoded text None (Some b) p q = absurd (p b q.0 q.1)
one_decoded text (Some a) None p q = absurd (q a p.0 p.1)
one_decoded text (Some a) (Some b) p q = ap Some (one_base64 a b p.0 q.0 (sym p.1 ∙ q.1))

one_said : (message : List ℕ) (a b : ServerFinalBody) → SaysAttribute message a → SaysAttribute message b → a ≡ b
one_said message (Error a) (Error b) p q = ap Error (behind 101 61 a b (sym p ∙ q))
one_said message (Error a) (Verifier b) p q = absurd (another_letter 61 a q.0 (sym p ∙ q.1))
one_said message (Verifier a) (Error b) p q = absurd (another_letter 61 b p.0 (sym q ∙ p.1))
one_said message (Verifier a) (Verifier b) p q =
    ap Verifier (one_decoded q.0 a b (subst (λ text. Decodes text a) (behind 118 61 p.0 q.0 (sym p.1 ∙ q.1)) p.2) q.2)

abbrev final_made : OwnedValue → Bool → ServerFinalBody → ServerFinal
final_made id done body = record { conversation_id = id; done = done; body = body }

same_final : (c d : OwnedValue) (e f : Bool) (m n : ServerFinalBody) → c ≡ d → e ≡ f → m ≡ n → final_made c e m ≡ final_made d f n
same_final c d e f m n a b g = λ x. final_made (a x) (b x) (g x)

pub one_carried_final : (reply : List ℕ) → IsOne (CarriesFinal reply)
one_carried_final reply = λ a b p q.
    let same = one_sasl_reply reply p.sasl q.sasl p.is_reply q.is_reply in
    let here : SaysFinal q.sasl.payload a.body = subst (λ (sasl : SaslResponse). SaysFinal sasl.payload a.body) same p.says in
    same_final a.conversation_id b.conversation_id a.done b.done a.body b.body
    (p.conversation ∙ ap (λ (sasl : SaslResponse). sasl.conversation_id) same ∙ sym q.conversation)
    (p.done ∙ ap (λ (sasl : SaslResponse). sasl.done) same ∙ sym q.done)
    (one_said q.sasl.payload a.body b.body here.1 q.says.1)

pub one_final_row : (reply : List ℕ) → IsOne (FinalReplyRow reply)
one_final_row reply = one_else (SaslRow reply) (FinalPayloadRow reply) (one_sasl_row reply) (one_row _ _)

-- a reply that carries one isn't refused
pub no_final_row : (reply : List ℕ) (last : ServerFinal) → CarriesFinal reply last → HasNone (FinalReplyRow reply)
no_final_row reply last is =
    none_else _ _ (sasl_reply_no_row reply is.sasl is.is_reply) (no_row _ _ (λ payload.
    let same = one_sasl_reply reply payload.0 is.sasl payload.1 is.is_reply in
    payload.2 last.body (subst (λ (sasl : SaslResponse). SaysFinal sasl.payload last.body) (sym same) is.says)))
