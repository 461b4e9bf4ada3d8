-- A client's first message has one reading, and none where a part of it is missing.
use Rattle.std.proofs.Common.{◌≡◌, ◌≢◌, ◌-◌, ℕ, List, [], ◌∷◌, ◌++◌, length, get_or, refl, ap, sym, subst, ◌∙◌, arith, length-append}
use Rattle.std.specs.Str.{IsUtf8}
use Rattle.std.proofs.lemmas.Str.{IsUtf8-append, IsUtf8-from_ascii, IsUtf8-take, IsCharBoundary-before_ascii}
use Rattle.std.proofs.lemmas.List.{take_at, get_or-append_right}
use Rattle.std.proofs.lemmas.Str.Ascii.{IsAscii-nil, IsAscii-cons, IsAscii-from_all}
use Rattle.mongo_scram.specs.Attributes.{after_comma, gs2_header, nonce_attribute, user_name_attribute}
use Rattle.mongo_scram.specs.Messages.{bare_message, open_message}
use Rattle.mongo_scram.specs.ServerMessages.{HasNo}
use Rattle.mongo_scram.specs.UserName.{escaped}
use Rattle.mongo_scram.proofs.Parts.{no_cut, one_cut}
use Rattle.mongo_server.specs.ClientMessages.{IsNonce, IsClientFirst, IsSaslName}
use Rattle.mongo_server.proofs.UserNames.{escaped_same, escaped-no_comma, escaped_text, past_ascii, unescaped_text}

-- ---- the texts

-- the message behind its header
pub opens : (username nonce : List ℕ) → open_message username nonce ≡ gs2_header ++ bare_message username nonce
unfolding open_message
opens username nonce = refl

-- and its two attributes
pub bares : (username nonce : List ℕ) → bare_message username nonce ≡ user_name_attribute ++ (escaped username ++ (0x2C ∷ (nonce_attribute ++ nonce)))
unfolding bare_message
bares username nonce = refl

behind_three : (a b c : ℕ) (x y : List ℕ) → a ∷ b ∷ c ∷ x ≡ a ∷ b ∷ c ∷ y → x ≡ y
behind_three a b c x y same = cc

behind_two : (a b : ℕ) (x y : List ℕ) → a ∷ b ∷ x ≡ a ∷ b ∷ y → x ≡ y
behind_two a b x y same = cc

sub_same : (n : ℕ) → n - n ≡ 0
sub_same n = omega arith

pub nonce_text : (nonce : List ℕ) → IsNonce nonce → IsUtf8 nonce
nonce_text nonce is = IsUtf8-from_ascii nonce (IsAscii-from_all nonce (λ k d within. omega (arith, (is k d within).1)))

nonce_ascii_text : (nonce : List ℕ) → IsUtf8 nonce → IsUtf8 (0x2C ∷ (nonce_attribute ++ nonce))
nonce_ascii_text nonce text = IsUtf8-append (after_comma nonce_attribute) nonce (IsUtf8-from_ascii (after_comma nonce_attribute) (IsAscii-cons 44 (114 ∷ 61 ∷ []) (omega arith) (IsAscii-cons 114 (61 ∷ []) (omega arith) (IsAscii-cons 61 [] (omega arith) IsAscii-nil)))) text

five_ascii : IsUtf8 (gs2_header ++ user_name_attribute)
five_ascii = IsUtf8-from_ascii (gs2_header ++ user_name_attribute) (IsAscii-cons 110 (44 ∷ 44 ∷ 110 ∷ 61 ∷ []) (omega arith) (IsAscii-cons 44 (44 ∷ 110 ∷ 61 ∷ []) (omega arith) (IsAscii-cons 44 (110 ∷ 61 ∷ []) (omega arith) (IsAscii-cons 110 (61 ∷ []) (omega arith) (IsAscii-cons 61 [] (omega arith) IsAscii-nil)))))

first_text : (message username nonce : List ℕ) → IsClientFirst message username nonce → IsUtf8 message
first_text message username nonce is =
    subst IsUtf8 (sym (is.message_is ∙ opens username nonce ∙ ap (λ x. gs2_header ++ x) (bares username nonce)))
    (IsUtf8-append (gs2_header ++ user_name_attribute) (escaped username ++ (0x2C ∷ (nonce_attribute ++ nonce))) five_ascii
    (IsUtf8-append (escaped username) (0x2C ∷ (nonce_attribute ++ nonce)) (escaped_text username is.text) (nonce_ascii_text nonce (nonce_text nonce is.printable))))

pub no_utf8_message : (message : List ℕ) → (IsUtf8 message → ⊥) → (username nonce : List ℕ) → IsClientFirst message username nonce → ⊥
no_utf8_message message none username nonce is = none (first_text message username nonce is)

-- what stands before a comma is a text where the whole is
name_front : (name rest : List ℕ) → IsUtf8 (name ++ (0x2C ∷ rest)) → IsUtf8 name
name_front name rest text =
    let comma : get_or (name ++ (0x2C ∷ rest)) (length name) 0 ≡ 0x2C = get_or-append_right name (0x2C ∷ rest) (length name) (length name) 0 refl (omega arith) ∙ ap (λ n. get_or (0x2C ∷ rest) n 0) (sub_same (length name)) in
    subst IsUtf8 (take_at name (0x2C ∷ rest) (length name) refl)
    (IsUtf8-take (name ++ (0x2C ∷ rest)) (length name) text
    (IsCharBoundary-before_ascii (name ++ (0x2C ∷ rest)) (length name) (omega (arith, length-append name (0x2C ∷ rest))) (omega (arith, comma))))

-- ---- its parts, one after another

pub no_gs2_header : (message : List ℕ) → ((rest : List ℕ) → message ≢ gs2_header ++ rest) → (username nonce : List ℕ) → IsClientFirst message username nonce → ⊥
no_gs2_header message none username nonce is = none (bare_message username nonce) (is.message_is ∙ opens username nonce)

-- the message behind its header is the bare one
pub one_bare : (message bare username nonce : List ℕ) → message ≡ gs2_header ++ bare → IsClientFirst message username nonce → bare ≡ bare_message username nonce
one_bare message bare username nonce is first = behind_three 110 44 44 bare (bare_message username nonce) (sym is ∙ first.message_is ∙ opens username nonce)

pub no_user_name : (message bare : List ℕ) → message ≡ gs2_header ++ bare → ((rest : List ℕ) → bare ≢ user_name_attribute ++ rest) → (username nonce : List ℕ) → IsClientFirst message username nonce → ⊥
no_user_name message bare is none username nonce first = none (escaped username ++ (0x2C ∷ (nonce_attribute ++ nonce))) (one_bare message bare username nonce is first ∙ bares username nonce)

-- the message behind its first key
pub record IsHeaded (message bare attributes : List ℕ) : Type 0 where
  pub header : message ≡ gs2_header ++ bare
  pub key : bare ≡ user_name_attribute ++ attributes

one_rest : (message bare attributes username nonce : List ℕ) → IsHeaded message bare attributes → IsClientFirst message username nonce → attributes ≡ escaped username ++ (0x2C ∷ (nonce_attribute ++ nonce))
one_rest message bare attributes username nonce is first =
    behind_two 110 61 attributes (escaped username ++ (0x2C ∷ (nonce_attribute ++ nonce))) (sym is.key ∙ one_bare message bare username nonce is.header first ∙ bares username nonce)

pub no_attribute_comma : (message bare attributes : List ℕ) → IsHeaded message bare attributes → HasNo 0x2C attributes → (username nonce : List ℕ) → IsClientFirst message username nonce → ⊥
no_attribute_comma message bare attributes is none username nonce first = no_cut attributes (escaped username) (nonce_attribute ++ nonce) none (one_rest message bare attributes username nonce is first)

-- and its two attributes
pub record AreFirstAttributes (message bare attributes name attribute : List ℕ) : Type 0 where
  pub opened : IsHeaded message bare attributes
  pub ends : HasNo 0x2C name
  pub joined : attributes ≡ name ++ (0x2C ∷ attribute)

one_attributes : (message bare attributes name attribute username nonce : List ℕ) → AreFirstAttributes message bare attributes name attribute → IsClientFirst message username nonce → (name ≡ escaped username) × (attribute ≡ nonce_attribute ++ nonce)
one_attributes message bare attributes name attribute username nonce is first =
    one_cut name (escaped username) attribute (nonce_attribute ++ nonce) is.ends (escaped-no_comma username) (sym is.joined ∙ one_rest message bare attributes username nonce is.opened first)

module _ (message bare attributes name attribute : List ℕ) (is : AreFirstAttributes message bare attributes name attribute) where
  pub no_nonce : ((rest : List ℕ) → attribute ≢ nonce_attribute ++ rest) → (username nonce : List ℕ) → IsClientFirst message username nonce → ⊥
  no_nonce none username nonce first = none nonce (one_attributes message bare attributes name attribute username nonce is first).1

  pub no_saslname : (IsSaslName name → ⊥) → (username nonce : List ℕ) → IsClientFirst message username nonce → ⊥
  no_saslname none username nonce first = none (username, (one_attributes message bare attributes name attribute username nonce is first).0)

  pub not_printable : (value : List ℕ) → attribute ≡ nonce_attribute ++ value → (IsNonce value → ⊥) → (username nonce : List ℕ) → IsClientFirst message username nonce → ⊥
  not_printable value value_is none username nonce first =
      let same = behind_two 114 61 nonce value (sym (one_attributes message bare attributes name attribute username nonce is first).1 ∙ value_is) in
      none (subst IsNonce same first.printable)

  -- a message of these parts is one of the name
  pub is_message : (username value : List ℕ) → name ≡ escaped username → attribute ≡ nonce_attribute ++ value → message ≡ open_message username value
  is_message username value name_is value_is =
      is.opened.header
      ∙ ap (λ x. gs2_header ++ x) (is.opened.key ∙ ap (λ x. user_name_attribute ++ x) (is.joined ∙ (λ i. name_is i ++ (0x2C ∷ value_is i))) ∙ sym (bares username value))
      ∙ sym (opens username value)

  pub is_bare : (username value : List ℕ) → name ≡ escaped username → attribute ≡ nonce_attribute ++ value → bare ≡ bare_message username value
  is_bare username value name_is value_is = is.opened.key ∙ ap (λ x. user_name_attribute ++ x) (is.joined ∙ (λ i. name_is i ++ (0x2C ∷ value_is i))) ∙ sym (bares username value)

  -- the user name is a text, since the message is
  pub username_text : (username : List ℕ) → IsUtf8 message → name ≡ escaped username → IsUtf8 username
  username_text username text name_is =
      let opened : IsUtf8 (110 ∷ 44 ∷ 44 ∷ 110 ∷ 61 ∷ attributes) = subst IsUtf8 (is.opened.header ∙ ap (λ x. gs2_header ++ x) is.opened.key) text in
      let key = past_ascii 44 _ (omega arith) (past_ascii 44 _ (omega arith) (past_ascii 110 _ (omega arith) opened)) in
      let five = past_ascii 61 attributes (omega arith) (past_ascii 110 _ (omega arith) key) in
      unescaped_text username (subst IsUtf8 name_is (name_front name attribute (subst IsUtf8 is.joined five)))

-- ---- one reading

pub record SameNameAndNonce (username nonce other more : List ℕ) : Type 0 where
  pub username_is : username ≡ other
  pub nonce_is : nonce ≡ more

pub one_client_first : (message username nonce other more : List ℕ) → IsClientFirst message username nonce → IsClientFirst message other more → SameNameAndNonce username nonce other more
one_client_first message username nonce other more p q =
    let bare = one_bare message (bare_message username nonce) other more (p.message_is ∙ opens username nonce) q in
    let rest = behind_two 110 61 (escaped username ++ (0x2C ∷ (nonce_attribute ++ nonce))) (escaped other ++ (0x2C ∷ (nonce_attribute ++ more))) (sym (bares username nonce) ∙ bare ∙ bares other more) in
    let cut = one_cut (escaped username) (escaped other) (nonce_attribute ++ nonce) (nonce_attribute ++ more) (escaped-no_comma username) (escaped-no_comma other) rest in
    record { username_is = escaped_same username other cut.0; nonce_is = behind_two 114 61 nonce more cut.1 }
