-- What a link that fails at chosen calls makes of a call, and what it means.
use Rattle.std.specs.Prelude.{ℕ, ◌==◌, not, Bool, List, slice_index, if◌then◌else◌}
use Rattle.mongo_wire.specs.Outside.{State, risen}
use Rattle.mongo_wire.specs.Memory.{memory_state}
use Rattle.mongo_wire.specs.declared.failing_link.FailingLink.{FailingLink}

-- whether the call of this number fails: its byte stands there and isn't 0
abbrev pub fails_at : List ℕ → ℕ → Bool
fails_at failing call = not (slice_index failing call == 0)

-- a count of faults after a call that fails or doesn't
abbrev pub counted_fault : Bool → ℕ → ℕ
counted_fault fails count = if fails then risen count else count

-- what it means: its lists and its counts
abbrev pub state_of : FailingLink → State
state_of failing = record (memory_state failing.link) { read_faults = failing.read_faults; write_faults = failing.write_faults }
