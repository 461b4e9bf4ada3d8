-- A client's last message has one reading, since a base64 text holds no comma, and none where a part of it is missing.
use Rattle.std.proofs.Common.{◌≡◌, ◌≢◌, ℕ, List, [], ◌∷◌, ◌++◌, refl, ap, sym, ◌∙◌}
use Rattle.base64.specs.GeneralPurpose.{IsBytes}
use Rattle.mongo_scram.specs.Attributes.{after_comma, bound_nonce_attribute, proof_attribute}
use Rattle.mongo_scram.specs.Base64.{base64_of}
use Rattle.mongo_scram.specs.Messages.{no_proof}
use Rattle.mongo_scram.specs.ServerMessages.{HasNo}
use Rattle.mongo_scram.proofs.OneMessage.{one_base64}
use Rattle.mongo_scram.proofs.Parts.{no_cut, heads, tails}
use Rattle.mongo_server.specs.ClientMessages.{IsClientFinal}
use Rattle.mongo_server.proofs.Base64Commas.{base64-no_comma}

-- ---- the last comma

one_last_cut : (a b x y : List ℕ) → HasNo 0x2C x → HasNo 0x2C y → a ++ (0x2C ∷ x) ≡ b ++ (0x2C ∷ y) → (a ≡ b) × (x ≡ y)
one_last_cut [] [] x y p q is = (refl, tails 0x2C 0x2C x y is)
one_last_cut [] (c ∷ b) x y p q is = absurd (no_cut x b y p (tails 0x2C c x (b ++ (0x2C ∷ y)) is))
one_last_cut (c ∷ a) [] x y p q is = absurd (no_cut y a x q (sym (tails c 0x2C (a ++ (0x2C ∷ x)) y is)))
one_last_cut (c ∷ a) (d ∷ b) x y p q is =
    let more = one_last_cut a b x y p q (tails c d (a ++ (0x2C ∷ x)) (b ++ (0x2C ∷ y)) is) in
    let first = heads c d (a ++ (0x2C ∷ x)) (b ++ (0x2C ∷ y)) is in (λ i. first i ∷ more.0 i, more.1)

-- ---- its parts

pub closes : (nonce proof : List ℕ) → no_proof nonce ++ (after_comma proof_attribute ++ base64_of proof) ≡ bound_nonce_attribute ++ (nonce ++ (0x2C ∷ (proof_attribute ++ base64_of proof)))
unfolding no_proof
closes nonce proof = refl

proof_no_comma : (proof : List ℕ) → HasNo 0x2C (proof_attribute ++ base64_of proof)
proof_no_comma proof = (λ is. absurd (cc is), (λ is. absurd (cc is), base64-no_comma proof))

behind_header : (x y : List ℕ) → bound_nonce_attribute ++ x ≡ bound_nonce_attribute ++ y → x ≡ y
behind_header x y same = cc

behind_key : (x y : List ℕ) → proof_attribute ++ x ≡ proof_attribute ++ y → x ≡ y
behind_key x y same = cc

pub no_header : (message : List ℕ) → ((rest : List ℕ) → message ≢ bound_nonce_attribute ++ rest) → (nonce proof : List ℕ) → IsClientFinal message nonce proof → ⊥
no_header message none nonce proof is = none (nonce ++ (0x2C ∷ (proof_attribute ++ base64_of proof))) (is.message_is ∙ closes nonce proof)

one_rest : (message attributes nonce proof : List ℕ) → message ≡ bound_nonce_attribute ++ attributes → IsClientFinal message nonce proof → attributes ≡ nonce ++ (0x2C ∷ (proof_attribute ++ base64_of proof))
one_rest message attributes nonce proof is final = behind_header attributes (nonce ++ (0x2C ∷ (proof_attribute ++ base64_of proof))) (sym is ∙ final.message_is ∙ closes nonce proof)

pub no_comma : (message attributes : List ℕ) → message ≡ bound_nonce_attribute ++ attributes → HasNo 0x2C attributes → (nonce proof : List ℕ) → IsClientFinal message nonce proof → ⊥
no_comma message attributes is none nonce proof final = no_cut attributes nonce (proof_attribute ++ base64_of proof) none (one_rest message attributes nonce proof is final)

-- the message cut at its last comma
pub record AreAttributes (message attributes value attribute : List ℕ) : Type 0 where
  pub header : message ≡ bound_nonce_attribute ++ attributes
  pub ends : HasNo 0x2C attribute
  pub joined : attributes ≡ value ++ (0x2C ∷ attribute)

one_attributes : (message attributes value attribute nonce proof : List ℕ) → AreAttributes message attributes value attribute → IsClientFinal message nonce proof → (value ≡ nonce) × (attribute ≡ proof_attribute ++ base64_of proof)
one_attributes message attributes value attribute nonce proof is final =
    one_last_cut value nonce attribute (proof_attribute ++ base64_of proof) is.ends (proof_no_comma proof) (sym is.joined ∙ one_rest message attributes nonce proof is.header final)

module _ (message attributes value attribute : List ℕ) (is : AreAttributes message attributes value attribute) where
  pub no_key : ((rest : List ℕ) → attribute ≢ proof_attribute ++ rest) → (nonce proof : List ℕ) → IsClientFinal message nonce proof → ⊥
  no_key none nonce proof final = none (base64_of proof) (one_attributes message attributes value attribute nonce proof is final).1

  pub no_base64 : (text : List ℕ) → attribute ≡ proof_attribute ++ text → ((bytes : List ℕ) → IsBytes bytes → text ≢ base64_of bytes) → (nonce proof : List ℕ) → IsClientFinal message nonce proof → ⊥
  no_base64 text text_is none nonce proof final = none proof final.bytes (behind_key text (base64_of proof) (sym text_is ∙ (one_attributes message attributes value attribute nonce proof is final).1))

  pub is_final : (text proof : List ℕ) → attribute ≡ proof_attribute ++ text → IsBytes proof → text ≡ base64_of proof → IsClientFinal message value proof
  is_final text proof text_is bytes encoded = record {
    message_is = is.header ∙ ap (λ x. bound_nonce_attribute ++ x) (is.joined ∙ ap (λ x. value ++ (0x2C ∷ x)) (text_is ∙ ap (λ x. proof_attribute ++ x) encoded)) ∙ sym (closes value proof);
    bytes = bytes;
  }

-- ---- one reading

pub record SameFinal (nonce proof other more : List ℕ) : Type 0 where
  pub nonce_is : nonce ≡ other
  pub proof_is : proof ≡ more

pub one_client_final : (message nonce proof other more : List ℕ) → IsClientFinal message nonce proof → IsClientFinal message other more → SameFinal nonce proof other more
one_client_final message nonce proof other more p q =
    let rest = behind_header (nonce ++ (0x2C ∷ (proof_attribute ++ base64_of proof))) (other ++ (0x2C ∷ (proof_attribute ++ base64_of more))) (sym (closes nonce proof) ∙ sym p.message_is ∙ q.message_is ∙ closes other more) in
    let cut = one_last_cut nonce other (proof_attribute ++ base64_of proof) (proof_attribute ++ base64_of more) (proof_no_comma proof) (proof_no_comma more) rest in
    record { nonce_is = cut.0; proof_is = one_base64 proof more p.bytes q.bytes (behind_key (base64_of proof) (base64_of more) cut.1) }
