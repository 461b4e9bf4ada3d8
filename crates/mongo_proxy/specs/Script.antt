-- Two sides that behave, and what becomes of them.
use Rattle.std.specs.Prelude.{◌≡◌, ℕ, ℤ, ◌<◌, ◌≤◌, ◌⊎◌, true, Some, Result, Ok, Err, List, [], ◌++◌, length, take}
use Rattle.std.specs.List.{AllByRecursion}
use Rattle.std.specs.Io.KnownBytes.{Appends}
use Rattle.mongo_wire.specs.Outside.{Unfailed}
use Rattle.mongo_wire.specs.declared.error.ErrorKind.TheVariants.{OutOfMemory}
use Rattle.mongo_proxy.specs.RelayedFrames.{RelayedFrame, Stand, Follow, IsWithin, beginning, commands, replies, taken_of, sent_of}
use Rattle.mongo_proxy.specs.Relays.{Counts}
use Rattle.mongo_proxy.specs.Sides.{Sides}
use Rattle.mongo_proxy.specs.declared.awaited.Awaited.TheVariants.{Command}
use Rattle.mongo_proxy.specs.declared.relayed.Relayed.{Relayed}
use Rattle.mongo_proxy.specs.declared.relayed.RelayFault.{RelayFault}

-- The client's bytes are whole frames within the maximum, and the server's begin with the replies to them; or there are at least as many
-- frames as are wanted.
pub record IsScript (maximum first : ℤ) (most : ℕ) (old : Sides) (relayed : List RelayedFrame) : Type 0 where
  pub after : Stand
  pub follow : Follow (beginning first) relayed after
  pub each : AllByRecursion (IsWithin maximum) relayed
  pub client_rest : List ℕ
  pub server_rest : List ℕ
  pub client_is : old.client.left ≡ Some (taken_of (commands relayed) ++ client_rest)
  pub server_is : old.server.left ≡ Some (taken_of (replies relayed) ++ server_rest)
  pub ends : (most ≤ length relayed) ⊎ ((after.awaited ≡ Command) × (client_rest ≡ []))

-- no read and no write failed on either side
pub record NothingFailed (old new : Sides) : Type 0 where
  pub client : Unfailed old.client new.client
  pub server : Unfailed old.server new.server

-- the frames were passed on, all of them or the first as many as are wanted
pub record RelaysScript (most : ℕ) (old new : Sides) (relayed : List RelayedFrame) (done : Relayed) : Type 0 where
  pub counts : Counts (take most relayed) done
  pub to_server : Appends old.server.written new.server.written (sent_of (commands (take most relayed)))
  pub to_client : Appends old.client.written new.client.written (sent_of (replies (take most relayed)))
  pub ended : done.ended ≡ true → length relayed < most
  pub whole : length relayed < most → done.ended ≡ true

-- what a script comes to: it is passed on, or memory runs out
abbrev pub Completes : ℕ → Sides → Sides → List RelayedFrame → Result Relayed RelayFault → Type 0
Completes most old new relayed (Ok done) = RelaysScript most old new relayed done
Completes most old new relayed (Err fault) = fault.error.kind ≡ OutOfMemory
