-- What a SCRAM conversation says, by RFC 5802, section 3, in its words. `h` is the hash function H, `salted` the
-- SaltedPassword, and the channel binding is none: `biws` is `n,,` in base64.
use Rattle.std.specs.Prelude.{ℕ, List, ◌++◌, codes}
use Rattle.mongo_mac.specs.Bytes.{xor_bytes}
use Rattle.mongo_mac.specs.Hmac.{hmac_of}
use Rattle.mongo_scram.specs.Attributes.{after_comma, bound_nonce_attribute, gs2_header, nonce_attribute, proof_attribute, user_name_attribute}
use Rattle.mongo_scram.specs.Base64.{base64_of}
use Rattle.mongo_scram.specs.UserName.{escaped}

-- client-first-message-bare: the user name and the client's nonce
unfoldable pub bare_message : List ℕ → List ℕ → List ℕ
bare_message user nonce = user_name_attribute ++ (escaped user ++ (after_comma nonce_attribute ++ nonce))

-- client-first-message
unfoldable pub open_message : List ℕ → List ℕ → List ℕ
open_message user nonce = gs2_header ++ bare_message user nonce

-- client-final-message-without-proof, of the server's nonce
unfoldable pub no_proof : List ℕ → List ℕ
no_proof nonce = bound_nonce_attribute ++ nonce

-- AuthMessage, of client-first-message-bare, server-first-message and the server's nonce
unfoldable pub transcript : List ℕ → List ℕ → List ℕ → List ℕ
transcript bare server_first nonce = bare ++ (codes "," ++ (server_first ++ (codes "," ++ no_proof nonce)))

unfoldable pub client_key : (List ℕ → List ℕ) → List ℕ → List ℕ
client_key h salted = hmac_of h salted (codes "Client Key")

unfoldable pub server_key : (List ℕ → List ℕ) → List ℕ → List ℕ
server_key h salted = hmac_of h salted (codes "Server Key")

-- ClientProof, from StoredKey := H(ClientKey) and ClientSignature := HMAC(StoredKey, AuthMessage)
unfoldable pub proof : (List ℕ → List ℕ) → List ℕ → List ℕ → List ℕ
proof h salted auth_message = xor_bytes (client_key h salted) (hmac_of h (h (client_key h salted)) auth_message)

-- client-final-message
unfoldable pub close_message : (List ℕ → List ℕ) → List ℕ → List ℕ → List ℕ → List ℕ
close_message h salted auth_message nonce = no_proof nonce ++ (after_comma proof_attribute ++ base64_of (proof h salted auth_message))

-- ServerSignature, which the server's verifier is
unfoldable pub verifier : (List ℕ → List ℕ) → List ℕ → List ℕ → List ℕ
verifier h salted auth_message = hmac_of h (server_key h salted) auth_message
