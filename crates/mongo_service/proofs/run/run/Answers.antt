use Rattle.std.proofs.Common.{rules}
use Rattle.mongo_service.proofs.Ran.{served_ends}
use Rattle.mongo_service.proofs.run.run.Goals as goal

pub returns-then-is_empty : goal.returns-then-is_empty
returns-then-is_empty g c = record {
  ends = served_ends _ _ c.serve_line.result (search rules) c.serve_line.ensures.ends;
}
