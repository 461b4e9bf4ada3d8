use Rattle.std.proofs.Common.{refl}
use Rattle.mongo_wire.specs.Bytes.{first_maximum}
use Rattle.mongo_bench.proofs.OnlyMemory.{writing_wants_memory}
use Rattle.mongo_bench.proofs.work.Work.write.Goals as goal

pub want_of_memory-requires : goal.want_of_memory-requires
want_of_memory-requires c = writing_wants_memory _ first_maximum c.args.message.now _ _ _ _ c.requires.fits c.in-Err.ensures.refused refl refl
