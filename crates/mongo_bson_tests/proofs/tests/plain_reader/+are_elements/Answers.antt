use Rattle.std.proofs.Common.{refl, sym, ◌∙◌, subst, arith}
use Rattle.std.proofs.lemmas.Bool.{false≢true}
use Rattle.mongo_bson.proofs.Levels.{left_over}
use Rattle.mongo_bson.proofs.Splits.{IsSpelled, IsFilledByElements, one_place_more, splits_here, splits_nowhere, filled_from, filled_splits}
use Rattle.mongo_bson_tests.proofs.tests.plain_reader.+are_elements.Goals as goal
use Rattle.mongo_bson_tests.proofs.tests.plain_reader.+are_elements.Goals.{then-is_element+else-are_elements, else-is_element}

pub are_elements-requires : goal.are_elements-requires
are_elements-requires t c = (omega (arith, c.split_at.ensures.back_len, c.loop-end.auto.end, c.loop-end-test.true, c.decreases), tt)

pub returns-then-are_elements : goal.returns-then-are_elements
returns-then-are_elements t c =
    let bytes = c.args.bytes.now in
    let cut = c.split_at.ensures in
    let here = splits_here IsSpelled IsFilledByElements bytes c.split_at.result.0.now c.split_at.result.1.now c.loop-end.end cut.front cut.back (c.is_element.ensures.0 c.if-is_element.true) (c.are_elements.ensures.0 c.if-are_elements.true) in
    (λ _. filled_from bytes here, λ _. refl)

pub loop-end-preserved : goal.loop-end-preserved
loop-end-preserved t c =
    let cut = c.split_at.ensures in
    one_place_more IsSpelled IsFilledByElements c.args.bytes.now c.loop-end.end c.loop-end.invariant (λ p q.
    elim c.if-is_element.branch [
      | then-is_element+else-are_elements w ↦ false≢true (sym w.if-are_elements.false ∙ w.are_elements.ensures.1 (subst IsFilledByElements (sym cut.back) q))
      | else-is_element w ↦ false≢true (sym w.if-is_element.false ∙ c.is_element.ensures.1 (subst IsSpelled (sym cut.front) p))
    ])

pub returns : goal.returns
returns t c =
    let bytes = c.args.bytes.now in
    let left = left_over bytes c.if-is_empty.ensures in
    (λ f. absurd (false≢true f), λ is. absurd (splits_nowhere IsSpelled IsFilledByElements bytes c.loop-end.end (omega arith) c.loop-end.invariant (filled_splits bytes left is)))
