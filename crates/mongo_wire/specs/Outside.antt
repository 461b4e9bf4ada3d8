-- The outside: sources that give bytes and sinks that take them. One that tells its bytes means a list; the
-- counts of faults and ends mean numbers that never fall.
use Rattle.std.specs.Prelude.{◌≡◌, ℕ, ◌+◌, ◌-◌, ◌^◌, ◌<◌, ◌≤◌, ◌⊎◌, min, Option, None, Some, Result, Ok, Err, List, [], length, take, is_some, IfSome, ⊤}
use Rattle.std.specs.Io.KnownBytes.{Appends, Consumes, Keeps}
use Rattle.mongo_wire.specs.declared.outside.SinkError.{SinkError}
use Rattle.mongo_wire.specs.declared.outside.SinkError.TheVariants.{Failed}
use Rattle.mongo_wire.specs.declared.error.ErrorKind.{ErrorKind}
use Rattle.mongo_wire.specs.declared.error.ErrorKind.TheVariants.{ReadFault, WriteFault, EndOfInput, OutOfMemory}

-- one more, or the last value
abbrev pub risen : ℕ → ℕ
risen count = min (count + 1) (2 ^ 64 - 1)

-- a count rose by one, or stands at its last value
abbrev pub Rose : ℕ → ℕ → Type 0
Rose before now = now ≡ risen before

-- What an object outside means at a moment: the bytes that it has left and those written to it, where it tells them, how
-- many of these are flushed, and its counts. A source has written nothing, and a sink has nothing left.
pub record State : Type 0 where
  pub left : Option (List ℕ)
  pub read_faults : ℕ
  pub ends : ℕ
  pub written : Option (List ℕ)
  pub flushed : ℕ
  pub write_faults : ℕ

-- what an object means that tells nothing: its counts
abbrev pub untold : ℕ → ℕ → ℕ → State
untold read_faults ends write_faults = record { left = None; read_faults = read_faults; ends = ends; written = None; flushed = 0; write_faults = write_faults }

-- a write leaves what is left to be read as it is
pub record Unread (old new : State) : Type 0 where
  pub left : new.left ≡ old.left
  pub reads : new.read_faults ≡ old.read_faults
  pub ends : new.ends ≡ old.ends

-- a read leaves what was written as it is
pub record Unwritten (old new : State) : Type 0 where
  pub written : new.written ≡ old.written
  pub flushed : new.flushed ≡ old.flushed
  pub writes : new.write_faults ≡ old.write_faults

-- no read failed, and no end was met
pub record Unstopped (old new : State) : Type 0 where
  pub reads : new.read_faults ≡ old.read_faults
  pub ends : new.ends ≡ old.ends

-- no read failed
abbrev pub NoReadFailed : State → State → Type 0
NoReadFailed old new = new.read_faults ≡ old.read_faults

-- no read met the end
abbrev pub NoReadEnded : State → State → Type 0
NoReadEnded old new = new.ends ≡ old.ends

-- the end was met once at most
abbrev pub EndsAtMostOnce : State → State → Type 0
EndsAtMostOnce old new = NoReadEnded old new ⊎ Rose old.ends new.ends

-- no write failed
abbrev pub NoWriteFailed : State → State → Type 0
NoWriteFailed old new = new.write_faults ≡ old.write_faults

-- neither a read nor a write failed
pub record Unfailed (old new : State) : Type 0 where
  pub reads : Rose old.read_faults new.read_faults → ⊥
  pub writes : Rose old.write_faults new.write_faults → ⊥

-- What reading keeps: whether the bytes are told, the counts from falling, what was written.
pub record ReadsOn (old new : State) : Type 0 where
  pub tells : is_some new.left ≡ is_some old.left
  pub faults_stay : old.read_faults ≤ new.read_faults
  pub ends_stay : old.ends ≤ new.ends
  pub unwritten : Unwritten old new

-- What writing keeps: whether the bytes are told, the counts from falling, what is left. What was flushed stays so.
pub record WritesOn (old new : State) : Type 0 where
  pub tells : is_some new.written ≡ is_some old.written
  pub faults_stay : old.write_faults ≤ new.write_faults
  pub flushed_stays : old.flushed ≤ new.flushed
  pub unread : Unread old new

-- A read counts a fault only where it fails, and an end only where it gives nothing for a buffer with room.
abbrev pub ReadCounts : {E : Type 0} → Result ℕ E → ℕ → State → State → Type 0
ReadCounts (Ok count) room old new = (new.read_faults ≡ old.read_faults) × (0 < count → new.ends ≡ old.ends) × (room ≡ 0 → new.ends ≡ old.ends)
ReadCounts (Err failed) room old new = new.ends ≡ old.ends

-- A refused write or flush counts a fault just where the sink failed, and any other counts none.
abbrev pub SinkCounts : SinkError → State → State → Type 0
SinkCounts Failed old new = Rose old.write_faults new.write_faults
SinkCounts fault old new = new.write_faults ≡ old.write_faults

abbrev pub WriteCounts : {T : Type 0} → Result T SinkError → State → State → Type 0
WriteCounts (Ok value) old new = new.write_faults ≡ old.write_faults
WriteCounts (Err fault) old new = SinkCounts fault old new

-- all that was written, where it is told, is flushed
abbrev pub IsFlushed : State → Type 0
IsFlushed state = IfSome state.written (λ bytes. state.flushed ≡ length bytes)

-- some front of the bytes was appended
abbrev pub AppendsFront : Option (List ℕ) → Option (List ℕ) → List ℕ → Type 0
AppendsFront old new bytes = (n : ℕ) × Appends old new (take n bytes)

-- some front of the bytes that were left was consumed, of at most so many bytes
abbrev pub ConsumesAtMost : Option (List ℕ) → Option (List ℕ) → ℕ → Type 0
ConsumesAtMost old new most = (taken : List ℕ) × (length taken ≤ most) × Consumes old new taken

-- the same, of fewer than so many bytes
abbrev pub ConsumesFewer : Option (List ℕ) → Option (List ℕ) → ℕ → Type 0
ConsumesFewer old new most = (taken : List ℕ) × (length taken < most) × Consumes old new taken

-- fewer bytes were left than were wanted, and none is left
abbrev pub RanOut : Option (List ℕ) → Option (List ℕ) → ℕ → Type 0
RanOut None new wanted = ⊤
RanOut (Some bytes) new wanted = (length bytes < wanted) × (new ≡ Some [])

-- one read failed, and no end was met
pub record FailsToRead (old new : State) : Type 0 where
  pub reads : Rose old.read_faults new.read_faults
  pub ends : new.ends ≡ old.ends

-- one end was met, and no read failed
pub record MeetsEnd (old new : State) : Type 0 where
  pub reads : new.read_faults ≡ old.read_faults
  pub ends : Rose old.ends new.ends

-- Why reading so many bytes was refused, and what it has consumed.
abbrev pub ReadStops : ErrorKind → State → State → ℕ → Type 0
ReadStops ReadFault old new wanted = FailsToRead old new × ConsumesFewer old.left new.left wanted
ReadStops EndOfInput old new wanted = MeetsEnd old new × RanOut old.left new.left wanted
ReadStops OutOfMemory old new wanted = Unstopped old new × ConsumesAtMost old.left new.left wanted
ReadStops kind old new wanted = ⊥

-- Why writing these bytes was refused, and what of them is written.
abbrev pub WriteStops : ErrorKind → State → State → List ℕ → Type 0
WriteStops WriteFault old new bytes = Rose old.write_faults new.write_faults × AppendsFront old.written new.written bytes
WriteStops OutOfMemory old new bytes = (new.write_faults ≡ old.write_faults) × AppendsFront old.written new.written bytes
WriteStops kind old new bytes = ⊥

-- the source ended before the first byte, and has given none
pub record HasEnded (old new : State) : Type 0 where
  pub met : MeetsEnd old new
  pub none : IfSome old.left (λ bytes. bytes ≡ [])
  pub still : IfSome new.left (λ bytes. bytes ≡ [])
  pub keeps : Keeps old.left new.left

-- where an end was met, there was a byte before it
abbrev pub HasMore : ErrorKind → Option (List ℕ) → Type 0
HasMore kind old = kind ≡ EndOfInput → IfSome old (λ bytes. 0 < length bytes)
