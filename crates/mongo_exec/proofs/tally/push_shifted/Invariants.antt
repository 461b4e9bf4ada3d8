use Rattle.std.proofs.Common.{◌≡◌, ◌++◌, take, map}
use Rattle.mongo_exec.specs.Outcome.{shifted}
use Rattle.mongo_exec.proofs.tally.push_shifted.Given as goal

abbrev pub invariant-loop-error : goal.invariant-loop-error
invariant-loop-error l = l.list ≡ l.fn.list ++ map (shifted l.place) (take l.error-index l.errors)
