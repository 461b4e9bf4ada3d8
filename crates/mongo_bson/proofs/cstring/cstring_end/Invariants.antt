use Rattle.std.proofs.Common.{◌≢◌, ℕ, ◌<◌, ◌≤◌, take, get_or}
use Rattle.std.specs.List.{All}
use Rattle.mongo_bson.proofs.cstring.cstring_end.Given as goal

abbrev pub invariant-loop-i : goal.invariant-loop-i
invariant-loop-i l = record { before : All (λ b. b ≢ 0) (take l.i l.bytes); joined : (k : ℕ) → k < l.i → get_or l.bytes k 0 ≤ l.joined }
