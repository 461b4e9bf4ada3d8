-- The two links of a proxy, and what passed over one of them.
use Rattle.std.specs.Prelude.{◌≡◌, ℕ, ◌+◌, ◌≤◌, ◌⊎◌, List, [], length, IfSome}
use Rattle.std.specs.Io.KnownBytes.{Appends, Consumes}
use Rattle.mongo_wire.specs.Outside.{State}

-- what the links mean at a moment
pub record Sides : Type 0 where
  pub client : State
  pub server : State

abbrev pub sides : State → State → Sides
sides client server = record { client = client; server = server }

-- no fault and no end was counted, and what was flushed stays so
pub record Lasts (old new : State) : Type 0 where
  pub reads : new.read_faults ≡ old.read_faults
  pub ends : new.ends ≡ old.ends
  pub writes : new.write_faults ≡ old.write_faults
  pub flushed : old.flushed ≤ new.flushed

-- what was sent is flushed, where anything was
abbrev pub HasFlushed : State → State → List ℕ → Type 0
HasFlushed old new sent = (sent ≡ []) ⊎ IfSome old.written (λ before. length before + length sent ≤ new.flushed)

-- just these bytes were taken from a side, and just these sent to it and flushed; nothing failed or ended
pub record Carries (old new : State) (taken sent : List ℕ) : Type 0 where
  pub consumed : Consumes old.left new.left taken
  pub appended : Appends old.written new.written sent
  pub flushed : HasFlushed old new sent
  pub lasts : Lasts old new
