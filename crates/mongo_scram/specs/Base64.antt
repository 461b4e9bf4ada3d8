-- Base64 as SCRAM writes bytes (RFC 5802, sections 5.1 and 7; RFC 4648, section 4): padded, and no spare bits.
use Rattle.std.specs.Prelude.{◌≡◌, ◌≢◌, ℕ, Option, None, Some, List}
use Rattle.base64.specs.Engines.{standard}
use Rattle.base64.specs.GeneralPurpose.{encode_of, IsBytes}

-- the base64 text of bytes
unfoldable pub base64_of : List ℕ → List ℕ
base64_of bytes = encode_of standard bytes

-- the base64 text decodes to these bytes, or to none
abbrev pub Decodes : List ℕ → Option (List ℕ) → Type 0
Decodes text None = (bytes : List ℕ) → IsBytes bytes → text ≢ base64_of bytes
Decodes text (Some bytes) = IsBytes bytes × (text ≡ base64_of bytes)
