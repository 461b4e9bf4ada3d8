-- The login of a number, and what comes of logins one after another.
use Rattle.std.specs.Prelude.{◌≡◌, ℕ, zero, suc, ◌+◌, ◌*◌, ◌%◌, ◌==◌, min, List, [], ◌++◌, replicate, codes, decimal, if◌then◌else◌}
use Rattle.sha2.specs.Sha256.{sha256}
use Rattle.mongo_scram.specs.declared.scram_version.ScramVersion.{ScramVersion}
use Rattle.mongo_scram.specs.declared.scram_version.ScramVersion.TheVariants.{Sha1, Sha256}
use Rattle.mongo_scram.specs.Base64.{base64_of}
use Rattle.mongo_establish.specs.declared.login_state.Nonces.{Nonces}
use Rattle.mongo_server.specs.Authentication.{Authentication, close_of, server_final_of}
use Rattle.mongo_generate.specs.declared.logins.Generated.{Generated}

-- ---- the login of a number

abbrev pub version_at : ℕ → ScramVersion
version_at k = if k % 2 == 0 then Sha1 else Sha256

abbrev pub authentication_at : ℕ → Authentication
authentication_at k = record {
  version = version_at k;
  username = codes "u" ++ decimal (k % 7);
  password = codes "p" ++ decimal (k % 3);
  salt = replicate 16 (k % 5);
  count = 4096;
  nonce = base64_of (replicate 32 (k % 256));
  suffix = codes "srv";
}

-- its nonces: the second is the first of the next number
abbrev pub nonces_at : ℕ → Nonces
nonces_at k = record { first = replicate 32 (k % 256); second = replicate 32 ((k + 1) % 256) }

-- ---- logins one after another

-- the client's last message and then the server's
abbrev pub last_messages : Authentication → List ℕ
last_messages x = close_of x ++ server_final_of x

-- those of the logins of the numbers below this one, joined
unfoldable pub all_messages : ℕ → List ℕ
all_messages zero = []
all_messages (suc k) = all_messages k ++ last_messages (authentication_at k)

-- how many different keys the logins have: version, user, password and salt come again after 2 * 7 * 3 * 5 of them
abbrev pub key_count : ℕ
key_count = 210

-- The logins of the numbers below `count`, where a counter had these steps before and has those after: all of them were
-- accepted, and each key was derived once by the client, and for each login once by its server.
pub record IsGenerated (count before after : ℕ) (generated : Generated) : Type 0 where
  pub logins_are : generated.logins ≡ count
  pub accepted_are : generated.accepted ≡ count
  pub rounds_are : generated.rounds ≡ 4096 * min count key_count
  pub digest_is : generated.digest ≡ sha256 (all_messages count)
  pub steps_are : after ≡ before + generated.rounds + 4096 * count
