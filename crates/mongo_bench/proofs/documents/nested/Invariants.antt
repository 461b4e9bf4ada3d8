use Rattle.std.proofs.Common.{◌≤◌, ◌+◌, ◌*◌, length}
use Rattle.mongo_bench.proofs.documents.nested.Given as goal

abbrev pub invariant-loop-i : goal.invariant-loop-i
invariant-loop-i l = (5 ≤ length l.document) × (length l.document ≤ 5 + 100_022 * l.i)
