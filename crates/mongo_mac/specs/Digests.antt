-- The digests of SHA-1 and SHA-256 as `sha1` and `sha2` state them, and their lengths (FIPS 180-4,
-- section 1).
use Rattle.std.specs.Prelude.{◌≡◌, ℕ, List, length, refl}
pub use Rattle.sha1.specs.Sha1.{sha1}
pub use Rattle.sha2.specs.Sha256.{sha256}
use Rattle.sha1.specs.Sha1.{digest_bytes}
use Rattle.sha2.specs.Sha256 as S256

pub length-sha1 : (bytes : List ℕ) → length (sha1 bytes) ≡ 20
unfolding sha1 digest_bytes
length-sha1 bytes = refl

pub length-sha256 : (bytes : List ℕ) → length (sha256 bytes) ≡ 32
unfolding sha256 S256.digest_bytes
length-sha256 bytes = refl
