use Rattle.std.proofs.Common.{◌≡◌, length, take, vec_capacity}
use Rattle.mongo_wire.proofs.frame_buffer.copy_of_held.Given as goal

-- the bytes so far are copied, into the memory that was taken
abbrev pub invariant-copying : goal.invariant-copying
invariant-copying l = record {
  copied : l.copy.items ≡ take l.byte-index l.bytes;
  memory : vec_capacity l.copy ≡ length l.bytes;
}
