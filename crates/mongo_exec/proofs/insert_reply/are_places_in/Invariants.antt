use Rattle.std.proofs.Common.{take}
use Rattle.std.specs.List.{All}
use Rattle.mongo_exec.specs.Reply.{IsPlaceIn}
use Rattle.mongo_exec.proofs.insert_reply.are_places_in.Given as goal

abbrev pub invariant-placing : goal.invariant-placing
invariant-placing l = All (IsPlaceIn l.many) (take l.error-index l.errors)
