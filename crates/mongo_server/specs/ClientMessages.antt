-- What a client says in a SCRAM conversation (RFC 5802, sections 5.1 and 7), as a server reads it.
use Rattle.std.specs.Prelude.{◌≡◌, ◌≢◌, ℕ, ◌≤◌, List, ◌++◌, All}
use Rattle.std.specs.Str.{IsUtf8}
use Rattle.base64.specs.GeneralPurpose.{IsBytes}
use Rattle.mongo_scram.specs.Attributes.{after_comma, proof_attribute}
use Rattle.mongo_scram.specs.Base64.{base64_of}
use Rattle.mongo_scram.specs.Messages.{open_message, no_proof}
use Rattle.mongo_scram.specs.UserName.{escaped}

-- a user name as messages carry it: `saslname`
abbrev pub IsSaslName : List ℕ → Type 0
IsSaslName text = (name : List ℕ) × (text ≡ escaped name)

-- printable ASCII, bytes 32 to 126, without a comma
abbrev pub IsNonceByte : ℕ → Type 0
IsNonceByte byte = (0x20 ≤ byte) × (byte ≤ 0x7E) × (byte ≢ 0x2C)

-- a client's nonce, or what a server adds to one
abbrev pub IsNonce : List ℕ → Type 0
IsNonce nonce = All IsNonceByte nonce

-- `client-first-message`: a user name and a nonce
pub record IsClientFirst (message username nonce : List ℕ) : Type 0 where
  pub message_is : message ≡ open_message username nonce
  pub text : IsUtf8 username
  pub printable : IsNonce nonce

-- `client-final-message`: a nonce and a proof in base64
pub record IsClientFinal (message nonce proof : List ℕ) : Type 0 where
  pub message_is : message ≡ no_proof nonce ++ (after_comma proof_attribute ++ base64_of proof)
  pub bytes : IsBytes proof
