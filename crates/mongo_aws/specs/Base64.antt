-- Base64 as a header writes bytes (RFC 4648, section 4): padded.
use Rattle.std.specs.Prelude.{ℕ, List}
use Rattle.base64.specs.Engines.{standard}
use Rattle.base64.specs.GeneralPurpose.{encode_of}

-- the base64 text of bytes
unfoldable pub base64_of : List ℕ → List ℕ
base64_of bytes = encode_of standard bytes
