use Rattle.std.proofs.Common.{◌≡◌, ◌≤◌, length, take}
use Rattle.mongo_exec.proofs.tally.catch_up.Given as goal

abbrev pub invariant-loop-index : goal.invariant-loop-index
invariant-loop-index l = record {
  front : l.list ≡ take l.index l.errors;
  within : l.index ≤ length l.errors;
}
