-- Logins that are measured.
use Rattle.std.specs.Prelude.{ℕ}
use Rattle.mongo_scram.specs.declared.cache.SaltedKey.{SaltedKey}
use Rattle.mongo_generate.specs.Generated.{authentication_at}
use Rattle.mongo_generate.specs.Login.{key_of, IsAuthenticationClient}
use Rattle.mongo_bench.specs.declared.task.Hash.{Hash}
use Rattle.mongo_bench.specs.declared.task.Hash.TheVariants.{Sha1, Sha256}
use Rattle.mongo_server.specs.Server.{Serves}
use Rattle.mongo_bench.specs.declared.peers.Peers.{Peers}

-- the first generated login over the hash: the even ones are by SCRAM-SHA-1
abbrev pub number_of_hash : Hash → ℕ
number_of_hash Sha1 = 0
number_of_hash Sha256 = 1

-- the key from which it derives
abbrev pub bench_key : Hash → SaltedKey
bench_key hash = key_of (authentication_at (number_of_hash hash))

-- a client and a server are the two sides of the first generated login over their hash
pub record AreReady (peers : Peers) : Type 0 where
  pub logs_in : IsAuthenticationClient (authentication_at (number_of_hash peers.hash)) peers.login
  pub serves : Serves peers.server (authentication_at (number_of_hash peers.hash))
