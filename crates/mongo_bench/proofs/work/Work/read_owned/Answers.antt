use Rattle.std.proofs.Common.{refl}
use Rattle.mongo_bench.proofs.OnlyMemory.{reading_wants_memory}
use Rattle.mongo_bench.proofs.work.Work.read_owned.Goals as goal

pub want_of_memory-requires : goal.want_of_memory-requires
want_of_memory-requires c = reading_wants_memory _ c.args.frame.now _ _ c.requires.whole c.new-source.ensures c.in-Err.ensures.again c.in-Err.ensures.refused refl refl
