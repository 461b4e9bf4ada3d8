-- What a link in memory holds, and what it means.
use Rattle.std.specs.Prelude.{ℕ, Some, List, drop}
use Rattle.mongo_wire.specs.Outside.{State}
use Rattle.mongo_wire.specs.declared.memory_link.MemoryLink.{MemoryLink}

-- what is left of its input
abbrev pub bytes_left : MemoryLink → List ℕ
bytes_left link = drop link.at link.input.items

-- all that was written to it
abbrev pub bytes_written : MemoryLink → List ℕ
bytes_written link = link.output.items

-- its lists and its counts: it never fails
abbrev pub memory_state : MemoryLink → State
memory_state link = record { left = Some (bytes_left link); read_faults = 0; ends = link.ends; written = Some (bytes_written link); flushed = link.flushed; write_faults = 0 }
