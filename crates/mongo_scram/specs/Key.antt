-- The key of a login: the password as Hi takes it, and the salted password (RFC 5802, section 3).
use Rattle.std.specs.Prelude.{ℕ, ◌<◌, ◌≤◌, ◌≡◌, ◌⊎◌, ◌++◌, List, codes, Any}
use Rattle.hex.specs.Hex.{encode_lower}
use Rattle.md5.specs.Md5.{md5}
use Rattle.mongo_mac.specs.Hi.{hi_of}
use Rattle.mongo_wire.specs.declared.error.ErrorKind.{ErrorKind}
use Rattle.mongo_wire.specs.declared.error.ErrorKind.TheVariants.{Authentication, PasswordNotAscii}
use Rattle.mongo_wire.specs.declared.auth_fault.AuthFault.TheVariants.{PasswordControl}
use Rattle.mongo_command.specs.Conversation.{or_else, row_for}
use Rattle.mongo_scram.specs.declared.scram_version.ScramVersion.{ScramVersion}
use Rattle.mongo_scram.specs.declared.scram_version.ScramVersion.TheVariants.{Sha1, Sha256}
use Rattle.mongo_scram.specs.Version.{digest_of}

-- Normalize(password). SCRAM-SHA-1 takes the digest that MongoDB keeps for the user, in lower-case hex, by the
-- authentication specification. SCRAM-SHA-256 takes the password itself, which SASLprep (RFC 4013) leaves as it is
-- where all of it is printable ASCII.
unfoldable pub norm : ScramVersion → List ℕ → List ℕ → List ℕ
norm Sha1 user password = encode_lower (md5 (user ++ codes ":mongo:" ++ password))
norm Sha256 user password = password

-- a control character of ASCII
abbrev pub IsControl : ℕ → Type 0
IsControl byte = (byte < 32) ⊎ (byte ≡ 127)

-- Why a password has no Normalize(password) here: SCRAM-SHA-256 takes none with a character past ASCII, which SASLprep
-- may change, and none with a control character, which it prohibits.
abbrev pub PasswordRow : ScramVersion → List ℕ → ErrorKind → Type 0
PasswordRow Sha1 password kind = ⊥
PasswordRow Sha256 password kind =
    or_else (row_for PasswordNotAscii (Any (λ byte. 128 ≤ byte) password))
    (row_for (Authentication PasswordControl) (Any IsControl password)) kind

-- SaltedPassword := Hi(Normalize(password), salt, i)
unfoldable pub salted : ScramVersion → List ℕ → List ℕ → List ℕ → ℕ → List ℕ
salted version user password salt i = hi_of (digest_of version) (norm version user password) salt i
