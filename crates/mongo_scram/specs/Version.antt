-- What a version of SCRAM fixes: its hash function H, and its name.
use Rattle.std.specs.Prelude.{ℕ, List}
use Rattle.sha1.specs.Sha1.{sha1}
use Rattle.sha2.specs.Sha256.{sha256}
use Rattle.mongo_scram.specs.declared.scram_version.ScramVersion.{ScramVersion}
use Rattle.mongo_scram.specs.declared.scram_version.ScramVersion.TheVariants.{Sha1, Sha256}
use Rattle.mongo_sasl.specs.Mechanism.{name_of as mechanism_name}
use Rattle.mongo_scram.specs.Commands.{mechanism_of}

-- H (RFC 5802, section 2.2; RFC 7677)
abbrev pub digest_of : ScramVersion → List ℕ → List ℕ
digest_of Sha1 = sha1
digest_of Sha256 = sha256

-- the length of a digest in bytes
abbrev pub digest_length : ScramVersion → ℕ
digest_length Sha1 = 20
digest_length Sha256 = 32

-- the mechanism's name
abbrev pub version_name : ScramVersion → List ℕ
version_name version = mechanism_name (mechanism_of version)
