use Rattle.std.proofs.Common.{◌≡◌, List, Some, length}
use Rattle.mongo_command.specs.EndsExchange.{footing}
use Rattle.mongo_command.specs.declared.stream_description.StreamDescription.{StreamDescription}
use Rattle.mongo_exec.specs.Insert.{Insert}
use Rattle.mongo_exec.specs.Outcome.{Answered}
use Rattle.mongo_exec.specs.Plan.{IsPlan}
use Rattle.mongo_exec.specs.Course.{Come}
use Rattle.mongo_exec.proofs.batches.insert_batches.Given as goal

abbrev pub invariant-batches : goal.invariant-batches
invariant-batches g l =
    (description : StreamDescription) (insert : Insert) → l.fn.connection.stream_description ≡ Some description → IsPlan description insert l.fn.documents l.fn.plan
    → (answered : List Answered) × Come g.L.Outside.state description insert l.fn.documents answered l.rest l.place l.tally (footing l.fn.connection l.fn.link l.fn.ids) (footing l.connection l.link l.ids)

abbrev pub decreases-batches : goal.decreases-batches
decreases-batches g l = length l.rest
