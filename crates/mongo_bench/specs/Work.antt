-- What a task does, counted by kind.
use Rattle.std.specs.Prelude.{ℕ}
use Rattle.mongo_bench.specs.declared.work.Work.{Work}
use Rattle.mongo_bench.specs.declared.task.Pass.{Pass}
use Rattle.mongo_bench.specs.declared.task.Pass.TheVariants.{Iterate, Readable}
use Rattle.mongo_bench.specs.declared.task.Direction.{Direction}
use Rattle.mongo_bench.specs.declared.task.Direction.TheVariants.{Write, Read, ReadOwned}
use Rattle.mongo_bench.specs.declared.task.BenchTask.{BenchTask}
use Rattle.mongo_bench.specs.declared.task.BenchTask.TheVariants.{Derive, Walk, Document, Frames, Insert, Login}

abbrev pub only_iterated : ℕ → Work
only_iterated n = record { iterated = n; judged = 0; written = 0; read = 0; read_owned = 0; built = 0; logged_in = 0 }

abbrev pub only_judged : ℕ → Work
only_judged n = record { iterated = 0; judged = n; written = 0; read = 0; read_owned = 0; built = 0; logged_in = 0 }

abbrev pub only_written : ℕ → Work
only_written n = record { iterated = 0; judged = 0; written = n; read = 0; read_owned = 0; built = 0; logged_in = 0 }

abbrev pub only_read : ℕ → Work
only_read n = record { iterated = 0; judged = 0; written = 0; read = n; read_owned = 0; built = 0; logged_in = 0 }

abbrev pub only_read_owned : ℕ → Work
only_read_owned n = record { iterated = 0; judged = 0; written = 0; read = 0; read_owned = n; built = 0; logged_in = 0 }

abbrev pub only_built : ℕ → Work
only_built n = record { iterated = 0; judged = 0; written = 0; read = 0; read_owned = 0; built = n; logged_in = 0 }

abbrev pub only_logged_in : ℕ → Work
only_logged_in n = record { iterated = 0; judged = 0; written = 0; read = 0; read_owned = 0; built = 0; logged_in = n }

abbrev pub nothing_done : Work
nothing_done = only_iterated 0

-- what a task does: so many passes over a document, frames, commands or logins, and nothing of another kind
abbrev pub work_of_pass : Pass → ℕ → Work
work_of_pass Iterate count = only_iterated count
work_of_pass Readable count = only_judged count

abbrev pub work_of_frames : Direction → ℕ → Work
work_of_frames Write count = only_written count
work_of_frames Read count = only_read count
work_of_frames ReadOwned count = only_read_owned count

abbrev pub work_of : BenchTask → Work
work_of (Derive hash count) = nothing_done
work_of (Walk pass shape count) = work_of_pass pass count
work_of (Document shape) = nothing_done
work_of (Frames direction size count) = work_of_frames direction count
work_of (Insert count) = only_built count
work_of (Login hash count) = only_logged_in count
