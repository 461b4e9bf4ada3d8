use Rattle.mongo_bench.proofs.SmallCommand.{document_wants_memory}
use Rattle.mongo_bench.proofs.insert.insert_document.Goals as goal

pub want_of_memory-requires : goal.want_of_memory-requires
want_of_memory-requires c = document_wants_memory _ c.set_reads_and_writes.new.command c.in_ok-set_reads_and_writes.ensures c.in-Err.ensures.refused
