use Rattle.std.proofs.Common.{arith}
use Rattle.std.proofs.lemmas.List.{take_all}
use Rattle.mongo_mac.proofs.SameBytes.{no_difference_more}
use Rattle.mongo_mac.proofs.compare.are_same_bytes.Goals as goal

pub loop-i-preserved : goal.loop-i-preserved
loop-i-preserved c =
    let in_left = c.loop-i-test.true in
    no_difference_more
    c.loop-i.difference
    c.args.left.now
    c.args.right.now
    c.loop-i.i
    in_left
    (omega arith)
    c.loop-i.invariant

pub returns : goal.returns
returns c = grind (arith, take_all)
