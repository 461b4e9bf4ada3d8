use Rattle.std.proofs.Common.{◌≡◌, [], take}
use Rattle.std.specs.List.{All}
use Rattle.mongo_exec.specs.Insert.{Insert, insert_size}
use Rattle.mongo_exec.specs.InsertMany.{IsAccepted}
use Rattle.mongo_exec.proofs.plan.judge_documents.Given as goal

abbrev pub invariant-judging : goal.invariant-judging
invariant-judging l = record {
  placed : l.place ≡ l.document-index;
  longest : l.longest ≡ l.description.max_bson_object_size;
  accepted : (insert : Insert) → l.bare ≡ insert_size insert [] → All (IsAccepted l.description insert) (take l.document-index l.documents);
}
