-- The keys of a user, and what is signed with them (RFC 5802, section 3).
use Rattle.std.specs.Prelude.{◌≡◌, ℕ, List}
use Rattle.mongo_mac.specs.Bytes.{xor_bytes}
use Rattle.mongo_mac.specs.Hmac.{hmac_of}
use Rattle.mongo_scram.specs.Messages.{client_key, server_key}
use Rattle.mongo_scram.specs.Version.{digest_of}
use Rattle.mongo_scram.specs.declared.keys.Keys.{Keys}

-- the keys of this salted password
pub record AreKeysOf (salted : List ℕ) (keys : Keys) : Type 0 where
  pub client_key_is : keys.client_key ≡ client_key (digest_of keys.version) salted
  -- StoredKey := H(ClientKey)
  pub stored_key_is : keys.stored_key ≡ digest_of keys.version (client_key (digest_of keys.version) salted)
  pub server_key_is : keys.server_key ≡ server_key (digest_of keys.version) salted

-- ClientProof := ClientKey XOR ClientSignature, with ClientSignature := HMAC(StoredKey, AuthMessage)
abbrev pub proof_under : Keys → List ℕ → List ℕ
proof_under keys auth_message = xor_bytes keys.client_key (hmac_of (digest_of keys.version) keys.stored_key auth_message)

-- ServerSignature := HMAC(ServerKey, AuthMessage)
abbrev pub verifier_under : Keys → List ℕ → List ℕ
verifier_under keys auth_message = hmac_of (digest_of keys.version) keys.server_key auth_message
