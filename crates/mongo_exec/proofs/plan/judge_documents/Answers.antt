use Rattle.std.proofs.Common.{length, ap, arith, refl, subst}
use Rattle.std.specs.List.{All}
use Rattle.std.proofs.lemmas.Int.{ints}
use Rattle.std.proofs.lemmas.List.{take_all}
use Rattle.mongo_exec.specs.InsertMany.{IsAccepted}
use Rattle.mongo_exec.proofs.Accepting.{one_accepted, one_too_long, first_unaccepted, accepted_more}
use Rattle.mongo_exec.proofs.plan.judge_documents.Goals as goal

pub judging-preserved : goal.judging-preserved
judging-preserved c = record {
  placed = omega (arith, c.judging.invariant.placed);
  longest = c.judging.invariant.longest;
  accepted = λ insert is. accepted_more c.args.description.now insert c.args.documents.now c.judging.document-index c.document-item.result c.judging-test.true c.document-item.is (c.judging.invariant.accepted insert is)
      (one_accepted c.args.description.now insert c.document-item.result c.args.bare c.args.frame is c.requires.frame
      (omega (arith, ints, c.is_longer.ensures.short c.if-is_longer.false, c.judging.invariant.longest, ap length c.as_bytes-size.ensures.bytes))
      (omega (arith, c.has_room.ensures.room c.if-not-has_room.false, ap length c.as_bytes-size.ensures.bytes)));
}

pub returns-then-is_longer-clause-refused : goal.returns-then-is_longer-clause-refused
returns-then-is_longer-clause-refused c insert is = record {
  document = c.document-item.result;
  first = first_unaccepted c.args.description.now insert c.args.documents.now c.judging.document-index c.judging.place c.document-item.result c.judging-test.true c.document-item.is c.judging.invariant.placed (c.judging.invariant.accepted insert is);
  long = omega (arith, ints, c.is_longer.ensures.longer c.if-is_longer.true, c.judging.invariant.longest, ap length c.as_bytes-size.ensures.bytes);
}

pub returns-then-not-has_room-clause-refused : goal.returns-then-not-has_room-clause-refused
returns-then-not-has_room-clause-refused c insert is = rw (c.argument_error.ensures) (
  refl,
  record {
    place = c.judging.place;
    document = c.document-item.result;
    first = first_unaccepted c.args.description.now insert c.args.documents.now c.judging.document-index c.judging.place c.document-item.result c.judging-test.true c.document-item.is c.judging.invariant.placed (c.judging.invariant.accepted insert is);
    short = omega (arith, ints, c.is_longer.ensures.short c.if-is_longer.false, c.judging.invariant.longest, ap length c.as_bytes-size.ensures.bytes);
    long = one_too_long c.args.description.now insert c.document-item.result c.args.bare c.args.frame is c.requires.frame (omega (arith, c.has_room.ensures.full c.if-not-has_room.true, ap length c.as_bytes-size.ensures.bytes));
  },
)

pub returns-clause-accepted : goal.returns-clause-accepted
returns-clause-accepted c insert is =
    subst (All (IsAccepted c.args.description.now insert)) (take_all c.judging.document-index c.args.documents.now (omega (arith, c.judging-test.false))) (c.judging.invariant.accepted insert is)
