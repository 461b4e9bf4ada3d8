-- What becomes of a connection after its handshake.
use Rattle.std.specs.Prelude.{◌≡◌, Option, None, Some}
use Rattle.mongo_wire.specs.declared.error.ErrorKind.TheVariants.{IncompatibleServer}
use Rattle.mongo_command.specs.declared.connection.Connection.{Connection}
use Rattle.mongo_command.specs.declared.stream_description.StreamDescription.{StreamDescription}
use Rattle.mongo_establish.specs.declared.generation.PoolGeneration.{PoolGeneration}
use Rattle.mongo_establish.specs.declared.establisher.PooledConnection.{PooledConnection}
use Rattle.mongo_establish.specs.declared.establisher.EstablishError.{EstablishError}
use Rattle.mongo_establish.specs.declared.establisher.HandshakePhase.{HandshakePhase}
use Rattle.mongo_establish.specs.declared.establisher.HandshakePhase.TheVariants.{PreHello, PostHello}
use Rattle.mongo_establish.specs.Generation.{NamesService, generation_of}

-- how far it had come, as its description says
abbrev pub phase_at : Option StreamDescription → PoolGeneration → HandshakePhase
phase_at None pool = PreHello pool
phase_at (Some description) pool = PostHello (generation_of pool description)

-- it is ready for commands
pub record IsPooled (connection : Connection) (pool : PoolGeneration) (pooled : PooledConnection) : Type 0 where
  pub description : StreamDescription
  pub described : connection.stream_description ≡ Some description
  pub named : NamesService pool description
  pub connection_is : pooled.connection ≡ connection
  pub generation_is : pooled.generation ≡ generation_of pool description

-- behind a load balancer, its server named no service
pub record UnnamedService (connection : Connection) (pool : PoolGeneration) (e : EstablishError) : Type 0 where
  pub description : StreamDescription
  pub described : connection.stream_description ≡ Some description
  pub unnamed : NamesService pool description → ⊥
  pub kind_is : e.cause.kind ≡ IncompatibleServer
  pub phase_is : e.handshake_phase ≡ PostHello (generation_of pool description)
