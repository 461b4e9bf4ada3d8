use Rattle.std.proofs.Common.{◌<◌, get_or, arith}
use Rattle.mongo_bench.proofs.Counts.{above_zero, count_read}
use Rattle.mongo_bench.proofs.task.count_of.Goals as goal

pub returns-then-first_byte-gt48 : goal.returns-then-first_byte-gt48
returns-then-first_byte-gt48 c =
    let first : 48 < get_or c.args.text.now 0 0 = omega arith in
    rw c.ok.ensures.value (count_read c.args.text.now first c.parse.result c.parse.ensures.value.0)

pub returns-else-first_byte-gt48 : goal.returns-else-first_byte-gt48
returns-else-first_byte-gt48 c = λ count is.
    let first = above_zero c.args.text.now count is in omega arith
