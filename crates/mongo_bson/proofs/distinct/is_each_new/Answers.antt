use Rattle.std.proofs.Common.{◌≢◌, ◌-◌, ◌<◌, length, refl, arith}
use Rattle.std.proofs.lemmas.Bool.{false≢true}
use Rattle.std.proofs.lemmas.List.Sorted.{all_adjacent_more}
use Rattle.mongo_bson.proofs.Apart.{apart_in_order, alike_not_apart, unlike}
use Rattle.mongo_bson.proofs.distinct.is_each_new.Goals as goal

pub returns-then-eq : goal.returns-then-eq
returns-then-eq c =
    let i = c.loop-i.i in
    (λ f. absurd (false≢true f), λ apart. absurd (alike_not_apart c.args.texts.now (i - 1) i _ (omega arith) c.loop-i-test.true c.if-eq.ensures apart))

pub loop-i-preserved : goal.loop-i-preserved
loop-i-preserved c =
    let i = c.loop-i.i in
    let texts = c.args.texts.now in
    let before : i - 1 < length texts = omega arith in
    all_adjacent_more texts (λ x y. x.now ≢ y.now) i (omega arith) c.loop-i.invariant (λ d. unlike texts (i - 1) i _ d before c.loop-i-test.true c.if-eq.ensures)

pub returns : goal.returns
returns c =
    (λ _. apart_in_order c.args.texts.now c.requires (λ k d within. c.loop-i.invariant k d (omega arith)), λ _. refl)
