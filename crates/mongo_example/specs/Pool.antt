-- How a pool begins, and what it asks and gets of an establishment.
use Rattle.std.specs.Prelude.{◌≡◌, ℕ, pos, IsSome, Some, []}
use Rattle.mongo_scram.specs.Cache.{entries_of, rounds_of}
use Rattle.mongo_establish.specs.declared.establisher.PendingConnection.{PendingConnection}
use Rattle.mongo_establish.specs.declared.establisher.PooledConnection.{PooledConnection}
use Rattle.mongo_establish.specs.declared.generation.ConnectionGeneration.TheVariants.{Normal}
use Rattle.mongo_establish.specs.declared.generation.PoolGeneration.TheVariants.{Normal as PoolNormal}
use Rattle.mongo_establish.specs.declared.login_state.Nonces.{Nonces}
use Rattle.mongo_establish.specs.Setup.{Setup, setup_for}
use Rattle.mongo_establish.specs.Options.{options_of_establisher}
use Rattle.mongo_example.specs.declared.pool.Pool.{Pool}
use Rattle.mongo_example.specs.Example.{example_server, example_user, example_handshake}

-- it is for this user at this server; it has made no connection, derived no key and drawn no id
pub record IsFresh (pool : Pool) : Type 0 where
  pub server : pool.address ≡ example_server
  pub user : pool.credential ≡ example_user
  pub handshake : options_of_establisher pool.establisher ≡ example_handshake
  pub generation : pool.generation ≡ 7
  pub first : pool.next_id ≡ 1
  pub derived : rounds_of pool.state.salted ≡ 0
  pub entries : entries_of pool.state.salted ≡ []
  pub ids : pool.state.ids ≡ pos 0

-- what an establishment is handed: a login of the pool's user, whose first command has the pool's next id
abbrev pub setup_by_pool : Pool → PendingConnection → Nonces → Setup
setup_by_pool pool pending nonces = setup_for pending (options_of_establisher pool.establisher) (Some pool.credential) nonces pool.state.ids

-- it is the one that was asked for, of its pool's generation, and the server has said what it is
pub record IsReady (pending : PendingConnection) (pooled : PooledConnection) : Type 0 where
  pub address : pooled.connection.address ≡ pending.address
  pub id : pooled.connection.id ≡ pending.id
  pub described : IsSome pooled.connection.stream_description
  pub generation : (n : ℕ) → pending.generation ≡ PoolNormal n → pooled.generation ≡ Normal n

-- nothing has changed but what its logins share
pub record KeepsPool (old new : Pool) : Type 0 where
  pub establisher : new.establisher ≡ old.establisher
  pub address : new.address ≡ old.address
  pub credential : new.credential ≡ old.credential
  pub generation : new.generation ≡ old.generation
  pub next_id : new.next_id ≡ old.next_id
