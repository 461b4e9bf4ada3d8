-- What the server says in a SCRAM conversation (RFC 5802, sections 5.1 and 7): lists of attributes, each a letter, `=`
-- and a value, parted by commas.
use Rattle.std.specs.Prelude.{◌≡◌, ◌≢◌, ℕ, ◌^◌, ◌<◌, ◌⊎◌, List, [], ◌∷◌, ◌++◌}
use Rattle.std.specs.List.{AllByRecursion}
use Rattle.std.specs.Str.{IsUtf8}
use Rattle.std.specs.Str.Parse.{IsNumeral, digits_value, without_leading_plus}
use Rattle.base64.specs.GeneralPurpose.{IsBytes}
use Rattle.mongo_wire.specs.declared.auth_fault.AuthFault.{AuthFault}
use Rattle.mongo_wire.specs.declared.auth_fault.AuthFault.TheVariants.{Malformed, CountUnreadable}
use Rattle.mongo_command.specs.Conversation.{or_else, row_for}
use Rattle.mongo_scram.specs.Attributes.{error_attribute, iteration_count_attribute, nonce_attribute, salt_attribute, verifier_attribute}
use Rattle.mongo_scram.specs.Base64.{base64_of, Decodes}
use Rattle.mongo_scram.specs.declared.server_final.ServerFinalBody.{ServerFinalBody}
use Rattle.mongo_scram.specs.declared.server_final.ServerFinalBody.TheVariants.{Error, Verifier}

-- the byte stands nowhere
abbrev pub HasNo : ℕ → List ℕ → Type 0
HasNo byte bytes = AllByRecursion (λ other. other ≢ byte) bytes

-- the message begins with these three parts, cut at its commas. What follows is passed over, as in the driver, `m=` too, which
-- section 5.1 of RFC 5802 says has to fail
pub record BeginsWithParts (message first second third : List ℕ) : Type 0 where
  pub extensions : List ℕ
  pub joined : message ≡ first ++ (0x2C ∷ (second ++ (0x2C ∷ (third ++ extensions))))
  pub first_ends : HasNo 0x2C first
  pub second_ends : HasNo 0x2C second
  pub third_ends : HasNo 0x2C third
  pub extensions_are : (extensions ≡ []) ⊎ ((more : List ℕ) × (extensions ≡ 0x2C ∷ more))

-- `server-first-message`: `r=` and the nonce, `s=` and the salt in base64, `i=` and the text of the iteration count
pub record IsServerFirst (message nonce salt count : List ℕ) : Type 0 where
  pub text : IsUtf8 message
  pub parts : BeginsWithParts message (nonce_attribute ++ nonce) (salt_attribute ++ base64_of salt) (iteration_count_attribute ++ count)
  pub bytes : IsBytes salt

-- the text is this number in decimal digits, where a `+` and zeros may stand first, as the driver reads it; section 7 of RFC 5802
-- has neither
abbrev pub IsIterationCount : List ℕ → ℕ → Type 0
IsIterationCount text number = IsNumeral 10 (without_leading_plus text) × (digits_value 10 (without_leading_plus text) ≡ number) × (number < 2 ^ 32)

-- why a message is no server first message: the first row that applies
abbrev pub ServerFirstTextRow : List ℕ → AuthFault → Type 0
ServerFirstTextRow message =
    or_else (row_for Malformed ((nonce salt count : List ℕ) → IsServerFirst message nonce salt count → ⊥))
    (row_for CountUnreadable ((nonce salt count : List ℕ) × IsServerFirst message nonce salt count × ((number : ℕ) → IsIterationCount count number → ⊥)))

-- the part stands at the front of the text, up to a comma or the text's end
pub record IsBeforeComma (text part : List ℕ) : Type 0 where
  pub extensions : List ℕ
  pub joined : text ≡ part ++ extensions
  pub part_ends : HasNo 0x2C part
  pub extensions_are : (extensions ≡ []) ⊎ ((more : List ℕ) × (extensions ≡ 0x2C ∷ more))

-- what the attribute says: `e=` and an error's text, or `v=` and the verifier in base64
abbrev pub SaysAttribute : List ℕ → ServerFinalBody → Type 0
SaysAttribute message (Error text) = message ≡ error_attribute ++ text
SaysAttribute message (Verifier bytes) = (text : List ℕ) × (message ≡ verifier_attribute ++ text) × Decodes text bytes

-- `server-final-message`
abbrev pub SaysFinal : List ℕ → ServerFinalBody → Type 0
SaysFinal message body = IsUtf8 message × SaysAttribute message body
