-- The key of a signature, by AWS Signature Version 4, "Derive a signing key": of a secret key, for a day, a region and a service.
use Rattle.std.specs.Prelude.{ℕ, List, ◌++◌, codes}
use Rattle.mongo_mac.specs.Digests.{sha256}
use Rattle.mongo_mac.specs.Hmac.{hmac_of}
use Rattle.mongo_aws.specs.Scope.{scope_end}

-- HMAC-SHA-256 of a text under a key
unfoldable pub hmac_sha256 : List ℕ → List ℕ → List ℕ
hmac_sha256 key text = hmac_of sha256 key text

-- DateKey, DateRegionKey, DateRegionServiceKey, SigningKey
unfoldable pub signing_key : List ℕ → List ℕ → List ℕ → List ℕ → List ℕ
signing_key secret day region service =
    hmac_sha256 (hmac_sha256 (hmac_sha256 (hmac_sha256 (codes "AWS4" ++ secret) day) region) service) scope_end
