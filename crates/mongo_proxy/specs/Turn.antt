-- One turn of a proxy: the next frame, from one side to the other.
use Rattle.std.specs.Prelude.{◌≡◌, ℕ, ℤ, pos, ◌≤ℤ◌, Option, None, Some, Result, Ok, Err, false, List, [], ◌∷◌, length}
use Rattle.mongo_wire.specs.Bytes.{next_id}
use Rattle.mongo_proxy.specs.RelayedFrames.{RelayedFrame, Passed, Stand, stand, IsCommand, IsNext, IsReplyTo, IsWithin, commands, replies, taken_of, sent_of}
use Rattle.mongo_proxy.specs.Relays.{ClientEnded, Counts, HasRelayed}
use Rattle.mongo_proxy.specs.Sides.{Sides, Carries}
use Rattle.mongo_proxy.specs.Stops.{Stops}
use Rattle.mongo_proxy.specs.declared.awaited.Asked.{Asked}
use Rattle.mongo_proxy.specs.declared.awaited.Awaited.{Awaited}
use Rattle.mongo_proxy.specs.declared.awaited.Awaited.TheVariants as awaited
use Rattle.mongo_proxy.specs.declared.passing.Stop.{Stop}
use Rattle.mongo_proxy.specs.declared.relayed.Relayed.{Relayed}

-- a command was taken from the client, and sent to the server and flushed
pub record CommandPassed (maximum : ℤ) (between new : Sides) (id last : ℤ) (after : Awaited) : Type 0 where
  pub command : Passed
  pub is_command : IsCommand id command after
  pub within : pos (length command.frame) ≤ℤ maximum
  pub client : Carries between.client new.client command.frame []
  pub server : Carries between.server new.server [] command.sent
  pub drawn : last ≡ next_id id

-- a reply was taken from the server, and sent to the client and flushed
pub record ReplyPassed (maximum : ℤ) (asked : Asked) (between new : Sides) (after : Awaited) : Type 0 where
  pub reply : Passed
  pub is_reply : IsReplyTo asked reply after
  pub within : pos (length reply.frame) ≤ℤ maximum
  pub client : Carries between.client new.client [] reply.sent
  pub server : Carries between.server new.server reply.frame []

abbrev pub CommandEnds : ℤ → Sides → Sides → ℤ → ℤ → Result (Option Awaited) Stop → Type 0
CommandEnds maximum between new id last (Ok None) = ClientEnded between new (stand awaited.Command id) × (last ≡ id)
CommandEnds maximum between new id last (Ok (Some after)) = CommandPassed maximum between new id last after
CommandEnds maximum between new id last (Err stop) = Stops stop.side maximum (stand awaited.Command id) between new last stop.error.kind

abbrev pub ReplyEnds : ℤ → Asked → Sides → Sides → ℤ → Result Awaited Stop → Type 0
ReplyEnds maximum asked between new id (Ok after) = ReplyPassed maximum asked between new after
ReplyEnds maximum asked between new id (Err stop) = Stops stop.side maximum (stand (awaited.Reply asked) id) between new id stop.error.kind

-- one frame was passed on
pub record PassesOne (maximum : ℤ) (before after : Stand) (between new : Sides) : Type 0 where
  pub relayed : RelayedFrame
  pub is_next : IsNext before relayed after
  pub within : IsWithin maximum relayed
  pub client : Carries between.client new.client (taken_of (commands (relayed ∷ []))) (sent_of (replies (relayed ∷ [])))
  pub server : Carries between.server new.server (taken_of (replies (relayed ∷ []))) (sent_of (commands (relayed ∷ [])))

abbrev pub TurnEnds : ℤ → Stand → Sides → Sides → ℤ → Result (Option Awaited) Stop → Type 0
TurnEnds maximum before between new last (Ok None) = ClientEnded between new before × (last ≡ before.id)
TurnEnds maximum before between new last (Ok (Some after)) = PassesOne maximum before (stand after last) between new
TurnEnds maximum before between new last (Err stop) = Stops stop.side maximum before between new last stop.error.kind

-- ---- turn after turn

-- so many frames were passed on so far, and counted
pub record Relaying (maximum first : ℤ) (old now : Sides) (after : Stand) (count : ℕ) (done : Relayed) : Type 0 where
  pub relayed : List RelayedFrame
  pub has_relayed : HasRelayed maximum first old now after relayed
  pub counted : length relayed ≡ count
  pub counts : Counts relayed done
  pub not_ended : done.ended ≡ false
