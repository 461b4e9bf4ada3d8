-- What a server says, as it writes it (RFC 5802, section 5.1).
use Rattle.std.specs.Prelude.{ℕ, List, ◌++◌, decimal}
use Rattle.mongo_scram.specs.Attributes.{after_comma, iteration_count_attribute, nonce_attribute, salt_attribute, verifier_attribute}
use Rattle.mongo_scram.specs.Base64.{base64_of}

-- `server-first-message`: the nonce, the salt in base64 and the iteration count in decimal digits, and nothing more
abbrev pub server_first : List ℕ → List ℕ → ℕ → List ℕ
server_first nonce salt count = nonce_attribute ++ (nonce ++ (after_comma salt_attribute ++ (base64_of salt ++ (after_comma iteration_count_attribute ++ decimal count))))

-- `server-final-message`: the verifier in base64
abbrev pub server_final : List ℕ → List ℕ
server_final verifier = verifier_attribute ++ base64_of verifier
