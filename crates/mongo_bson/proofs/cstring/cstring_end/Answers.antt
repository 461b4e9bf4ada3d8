use Rattle.std.proofs.Common.{◌≢◌, get_or, subst, below_more, arith}
use Rattle.std.specs.List.{All}
use Rattle.std.proofs.lemmas.List.{take_all}
use Rattle.std.proofs.lemmas.List.Elements.{All-more}
use Rattle.std.proofs.lemmas.Nat.{le_or_l, le_or_r}
use Rattle.mongo_bson.proofs.cstring.cstring_end.Goals as goal

pub loop-i-preserved : goal.loop-i-preserved
loop-i-preserved c =
    let bytes = c.args.bytes.now in
    let i = c.loop-i.i in
    let byte = get_or bytes i 0 in
    record {
      before = All-more (λ b. b ≢ 0) bytes i 0 c.loop-i-test.true c.loop-i.invariant.before c.if-b-eq0.false;
      joined = below_more _ _ (λ k below. omega (arith, c.loop-i.invariant.joined k below, le_or_l c.loop-i.joined byte)) (le_or_r c.loop-i.joined byte);
    }

pub returns-clause-zero : goal.returns-clause-zero
returns-clause-zero c = subst (All (λ b. b ≢ 0)) (take_all c.loop-i.i c.args.bytes.now c.loop-i-test.false) c.loop-i.invariant.before
