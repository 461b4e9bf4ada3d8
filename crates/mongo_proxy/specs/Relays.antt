-- What a relay answers, and what it did.
use Rattle.std.specs.Prelude.{◌≡◌, ℕ, ℤ, ◌+◌, ◌<◌, ◌^◌, Bool, true, false, Result, Ok, Err, List, length}
use Rattle.std.specs.List.{AllByRecursion}
use Rattle.mongo_wire.specs.Outside.{HasEnded}
use Rattle.mongo_proxy.specs.RelayedFrames.{RelayedFrame, Stand, Follow, IsWithin, AllDiffer, beginning, commands, replies, ids_of, taken_of, sent_of}
use Rattle.mongo_proxy.specs.Sides.{Sides, Carries}
use Rattle.mongo_proxy.specs.Stops.{Stops}
use Rattle.mongo_proxy.specs.declared.awaited.Awaited.{Awaited}
use Rattle.mongo_proxy.specs.declared.awaited.Awaited.TheVariants.{Command, Reply}
use Rattle.mongo_proxy.specs.declared.relayed.Relayed.{Relayed}
use Rattle.mongo_proxy.specs.declared.relayed.RelayFault.{RelayFault}

-- These frames were passed on, in this order, each within the maximum, and nothing else: what was taken from each side are its frames
-- joined, and what was sent to it what the other side's frames go as, all flushed.
pub record HasRelayed (maximum first : ℤ) (old now : Sides) (after : Stand) (relayed : List RelayedFrame) : Type 0 where
  pub follow : Follow (beginning first) relayed after
  pub each : AllByRecursion (IsWithin maximum) relayed
  pub client : Carries old.client now.client (taken_of (commands relayed)) (sent_of (replies relayed))
  pub server : Carries old.server now.server (taken_of (replies relayed)) (sent_of (commands relayed))

-- fewer commands than there are ids were sent with ids that differ
abbrev pub AreApart : List RelayedFrame → Type 0
AreApart relayed = length (commands relayed) < 2 ^ 32 → AllDiffer (ids_of (commands relayed))

-- the counts are those of the frames that were passed on
pub record Counts (relayed : List RelayedFrame) (done : Relayed) : Type 0 where
  pub commands_are : done.commands ≡ length (commands relayed)
  pub replies_are : done.replies ≡ length (replies relayed)

-- the counts after one frame more
abbrev pub counted : Relayed → Awaited → Relayed
counted done Command = record done { commands = done.commands + 1 }
counted done (Reply asked) = record done { replies = done.replies + 1 }

-- the client ended where a command was awaited; nothing was done but that its end was met
pub record ClientEnded (between new : Sides) (after : Stand) : Type 0 where
  pub awaits : after.awaited ≡ Command
  pub ended : HasEnded between.client new.client
  pub written : new.client.written ≡ between.client.written
  pub flushed : new.client.flushed ≡ between.client.flushed
  pub writes : new.client.write_faults ≡ between.client.write_faults
  pub server_is : new.server ≡ between.server

-- as many frames as are wanted were passed on, and no more was done; or fewer, and the client ended
abbrev pub EndsWhole : Bool → ℕ → Sides → Sides → Stand → List RelayedFrame → Type 0
EndsWhole false most between new after relayed = (length relayed ≡ most) × (new ≡ between)
EndsWhole true most between new after relayed = (length relayed < most) × ClientEnded between new after

-- It ended without a fault.
pub record RelaysWhole (maximum : ℤ) (most : ℕ) (first last : ℤ) (old new : Sides) (done : Relayed) : Type 0 where
  pub relayed : List RelayedFrame
  pub after : Stand
  pub between : Sides
  pub has_relayed : HasRelayed maximum first old between after relayed
  pub apart : AreApart relayed
  pub counts : Counts relayed done
  pub ends : EndsWhole done.ended most between new after relayed
  pub next : last ≡ after.id

-- It ended with a fault, before as many frames as are wanted were passed on.
pub record RelaysCut (maximum : ℤ) (most : ℕ) (first last : ℤ) (old new : Sides) (fault : RelayFault) : Type 0 where
  pub relayed : List RelayedFrame
  pub after : Stand
  pub between : Sides
  pub has_relayed : HasRelayed maximum first old between after relayed
  pub apart : AreApart relayed
  pub counts : Counts relayed fault.done
  pub not_ended : fault.done.ended ≡ false
  pub fewer : length relayed < most
  pub stops : Stops fault.side maximum after between new last fault.error.kind

abbrev pub Relays : ℤ → ℕ → ℤ → ℤ → Sides → Sides → Result Relayed RelayFault → Type 0
Relays maximum most first last old new (Ok done) = RelaysWhole maximum most first last old new done
Relays maximum most first last old new (Err fault) = RelaysCut maximum most first last old new fault
