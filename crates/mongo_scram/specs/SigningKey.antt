-- Which key of HMAC a signing key is: it keeps the two blocks of that key (RFC 2104, section 4).
use Rattle.std.specs.Prelude.{◌≡◌, ℕ, List, refl}
use Rattle.std.specs.Coded.{Coded, code_by, coded×, coded_list, coded_ℕ, Coded-set}
use Rattle.mongo_mac.specs.Hmac.{Pads, pads_of}
use Rattle.mongo_scram.specs.declared.scram_version.ScramVersion.{ScramVersion}
use Rattle.mongo_scram.specs.declared.scram_version.ScramVersion.TheVariants.{Sha1, Sha256}
use Rattle.mongo_scram.specs.declared.signing_key.SigningKey.{SigningKey}
use Rattle.mongo_scram.specs.declared.signing_key.SigningKey.TheVariants.{Sha1 as ForSha1, Sha256 as ForSha256}
use Rattle.mongo_scram.specs.Version.{digest_of}

-- this is the key `key` of the version's HMAC
abbrev pub IsKeyOf : ScramVersion → List ℕ → SigningKey → Type 0
IsKeyOf Sha1 key (ForSha1 pads) = pads ≡ pads_of (digest_of Sha1) key
IsKeyOf Sha256 key (ForSha256 pads) = pads ≡ pads_of (digest_of Sha256) key
IsKeyOf version key signing = ⊥

-- two blocks are stored as a pair
abbrev pads_code : Coded Pads
pads_code =
    code_by (List ℕ × List ℕ) (coded× (coded_list coded_ℕ) (coded_list coded_ℕ)) (λ p. (p.inner, p.outer)) (λ p. record { inner = p.0; outer = p.1 }) (λ _. refl)

-- it is so in one way at most, so that a struct may keep that it is
pub IsKeyOf-prop : (version : ScramVersion) (key : List ℕ) (signing : SigningKey) → IsProp (IsKeyOf version key signing)
IsKeyOf-prop Sha1 key (ForSha1 pads) = Coded-set pads_code pads (pads_of (digest_of Sha1) key)
IsKeyOf-prop Sha1 key (ForSha256 pads) = λ x y. absurd x
IsKeyOf-prop Sha256 key (ForSha1 pads) = λ x y. absurd x
IsKeyOf-prop Sha256 key (ForSha256 pads) = Coded-set pads_code pads (pads_of (digest_of Sha256) key)
