use Rattle.std.proofs.Common.{Err, ◌++◌, ap, ◌∙◌}
use Rattle.std.proofs.lemmas.List.{take_all}
use Rattle.mongo_bson.specs.Framed.{element_bytes, enclosed}
use Rattle.mongo_wire.specs.JoinedDocument.{arrays_bytes}
use Rattle.mongo_wire.proofs.Arrays.{array_added, all_too_long, same_fault}
use Rattle.mongo_wire.proofs.joined_document.with_arrays.Goals as goal

pub adding-preserved : goal.adding-preserved
adding-preserved c = record {
  spelled = array_added c.args.sequences.now c.adding.sequence-index c.sequence-item.result c.adding-test.true c.sequence-item.is (element_bytes c.args.body.now) c.adding.document c.add_array.new.document c.adding.invariant.spelled c.adding.invariant.framed.most c.in-Ok.ensures.added;
  framed = c.in-Ok.ensures.framed;
}

pub returns-in-Err-clause-too_long : goal.returns-in-Err-clause-too_long
returns-in-Err-clause-too_long c = λ too_long.
    all_too_long c.args.sequences.now c.adding.sequence-index c.sequence-item.result c.adding-test.true c.sequence-item.is (element_bytes c.args.body.now) c.adding.document c.adding.invariant.spelled (c.in-Err.ensures.too_long (ap Err (same_fault c.in-Err.fault too_long)))

pub returns-in-Err-clause-refused : goal.returns-in-Err-clause-refused
returns-in-Err-clause-refused c = c.in-Err.ensures.refused

pub returns : goal.returns
returns c =
    let sequences = c.args.sequences.now in
    let all = take_all c.adding.sequence-index sequences c.adding-test.false in
    record {
      document = c.adding.invariant.spelled ∙ ap (λ s. enclosed (element_bytes c.args.body.now ++ arrays_bytes s)) all;
      fits = c.adding.invariant.framed.most;
      too_long = λ is. absurd (cc);
      refused = tt;
    }
