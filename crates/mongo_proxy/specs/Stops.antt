-- The fault that ended a relay: which side it came from, what had come before it, and what it left.
use Rattle.std.specs.Prelude.{◌≡◌, ℤ, pos, ◌≤ℤ◌, ◌≤◌, List, ℕ, length}
use Rattle.std.specs.Io.KnownBytes.{Consumes}
use Rattle.mongo_wire.specs.Bytes.{next_id}
use Rattle.mongo_wire.specs.Message.{ReadRefused}
use Rattle.mongo_wire.specs.Outside.{State, HasMore, ReadsOn, Unread, WriteStops}
use Rattle.mongo_wire.specs.declared.error.ErrorKind.{ErrorKind}
use Rattle.mongo_proxy.specs.RelayedFrames.{Passed, Stand, IsCommand, IsReplyTo}
use Rattle.mongo_proxy.specs.Sides.{Sides, Lasts}
use Rattle.mongo_proxy.specs.declared.awaited.Asked.{Asked}
use Rattle.mongo_proxy.specs.declared.awaited.Awaited.{Awaited}
use Rattle.mongo_proxy.specs.declared.awaited.Awaited.TheVariants as awaited
use Rattle.mongo_proxy.specs.declared.relayed.Side.{Side}
use Rattle.mongo_proxy.specs.declared.relayed.Side.TheVariants.{Client, Server}

-- a frame was taken whole from a side, and nothing else happened to it
pub record Takes (maximum : ℤ) (old new : State) (frame : List ℕ) : Type 0 where
  pub consumed : Consumes old.left new.left frame
  pub within : pos (length frame) ≤ℤ maximum
  pub on : ReadsOn old new
  pub lasts : Lasts old new

-- A side didn't take all of these bytes, or didn't flush them: a front of them is written. What was flushed stays so.
pub record SendStops (kind : ErrorKind) (old new : State) (sent : List ℕ) : Type 0 where
  pub stops : WriteStops kind old new sent
  pub unread : Unread old new
  pub flushed : old.flushed ≤ new.flushed

-- no command came from the client, which hadn't ended between two frames
pub record NoCommand (maximum : ℤ) (between new : Sides) (id last : ℤ) (kind : ErrorKind) : Type 0 where
  pub refused : ReadRefused kind maximum between.client new.client
  pub more : HasMore kind between.client.left
  pub on : ReadsOn between.client new.client
  pub server_is : new.server ≡ between.server
  pub undrawn : last ≡ id

-- a command was taken and drew its id, and the server didn't take it whole
pub record CommandCut (maximum : ℤ) (between new : Sides) (id last : ℤ) (kind : ErrorKind) : Type 0 where
  pub command : Passed
  pub after : Awaited
  pub is_command : IsCommand id command after
  pub taken : Takes maximum between.client new.client command.frame
  pub stops : SendStops kind between.server new.server command.sent
  pub drawn : last ≡ next_id id

-- no reply came from the server
pub record NoReply (maximum : ℤ) (between new : Sides) (id last : ℤ) (kind : ErrorKind) : Type 0 where
  pub refused : ReadRefused kind maximum between.server new.server
  pub on : ReadsOn between.server new.server
  pub client_is : new.client ≡ between.client
  pub undrawn : last ≡ id

-- a reply was taken, and the client didn't take it whole
pub record ReplyCut (maximum : ℤ) (asked : Asked) (between new : Sides) (id last : ℤ) (kind : ErrorKind) : Type 0 where
  pub reply : Passed
  pub after : Awaited
  pub is_reply : IsReplyTo asked reply after
  pub taken : Takes maximum between.server new.server reply.frame
  pub stops : SendStops kind between.client new.client reply.sent
  pub undrawn : last ≡ id

abbrev pub StopsOn : Side → Awaited → ℤ → Sides → Sides → ℤ → ℤ → ErrorKind → Type 0
StopsOn Client awaited.Command maximum between new id last kind = NoCommand maximum between new id last kind
StopsOn Server awaited.Command maximum between new id last kind = CommandCut maximum between new id last kind
StopsOn Server (awaited.Reply asked) maximum between new id last kind = NoReply maximum between new id last kind
StopsOn Client (awaited.Reply asked) maximum between new id last kind = ReplyCut maximum asked between new id last kind

-- What was awaited and the side say what stopped: the side that was to give the frame, or the side that was to take it.
abbrev pub Stops : Side → ℤ → Stand → Sides → Sides → ℤ → ErrorKind → Type 0
Stops side maximum before between new last kind = StopsOn side before.awaited maximum between new before.id last kind
