-- What is signed by a kept key is the HMAC under it, and what is signed under the keys of a salted password is what the
-- salted password proves.
use Rattle.std.proofs.Common.{◌≡◌, ℕ, List, ap, ◌∙◌}
use Rattle.mongo_mac.specs.Bytes.{xor_bytes}
use Rattle.mongo_mac.specs.Hmac.{Pads, hmac_of, mac_of}
use Rattle.mongo_mac.proofs.Keys.{mac_of-pads_of}
use Rattle.mongo_scram.specs.declared.scram_version.ScramVersion.{ScramVersion}
use Rattle.mongo_scram.specs.declared.scram_version.ScramVersion.TheVariants.{Sha1, Sha256}
use Rattle.mongo_scram.specs.declared.keys.Keys.{Keys}
use Rattle.mongo_scram.specs.declared.signing_key.SigningKey.TheVariants.{Sha1 as ForSha1, Sha256 as ForSha256}
use Rattle.mongo_scram.specs.Keys.{AreKeysOf, proof_under, verifier_under}
use Rattle.mongo_scram.specs.Messages.{client_key, server_key, proof, verifier}
use Rattle.mongo_scram.specs.SigningKey.{IsKeyOf}
use Rattle.mongo_scram.specs.Version.{digest_of}

-- ---- one key

pub sha1_mac : (version : ScramVersion) (key text mac : List ℕ) (pads : Pads) → IsKeyOf version key (ForSha1 pads) → mac ≡ mac_of (digest_of Sha1) pads text → mac ≡ hmac_of (digest_of version) key text
sha1_mac Sha1 key text mac pads is made = made ∙ ap (λ (p : Pads). mac_of (digest_of Sha1) p text) is ∙ mac_of-pads_of (digest_of Sha1) key text
sha1_mac Sha256 key text mac pads is made = absurd is

pub sha256_mac : (version : ScramVersion) (key text mac : List ℕ) (pads : Pads) → IsKeyOf version key (ForSha256 pads) → mac ≡ mac_of (digest_of Sha256) pads text → mac ≡ hmac_of (digest_of version) key text
sha256_mac Sha1 key text mac pads is made = absurd is
sha256_mac Sha256 key text mac pads is made = made ∙ ap (λ (p : Pads). mac_of (digest_of Sha256) p text) is ∙ mac_of-pads_of (digest_of Sha256) key text

-- ---- the keys of a salted password

pub verifier_is : (keys : Keys) (version : ScramVersion) (key auth_message : List ℕ) → keys.version ≡ version → AreKeysOf key keys → verifier_under keys auth_message ≡ verifier (digest_of version) key auth_message
unfolding verifier
verifier_is keys version key auth_message same are =
    ap (λ k. hmac_of (digest_of keys.version) k auth_message) are.server_key_is
    ∙ ap (λ v. hmac_of (digest_of v) (server_key (digest_of v) key) auth_message) same

pub proof_is : (keys : Keys) (version : ScramVersion) (key auth_message : List ℕ) → keys.version ≡ version → AreKeysOf key keys → proof_under keys auth_message ≡ proof (digest_of version) key auth_message
unfolding proof
proof_is keys version key auth_message same are =
    (λ i. xor_bytes (are.client_key_is i) (hmac_of (digest_of keys.version) (are.stored_key_is i) auth_message))
    ∙ ap (λ v. xor_bytes (client_key (digest_of v) key) (hmac_of (digest_of v) (digest_of v (client_key (digest_of v) key)) auth_message)) same
