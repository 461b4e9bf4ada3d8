use Rattle.std.proofs.Common.{◌+◌, drop, ap, ◌∙◌, drop_of_length-le}
use Rattle.std.specs.Fmt.{decimal}
use Rattle.std.proofs.lemmas.Result.{err_from_is_err_and}
use Rattle.serde_json.specs.View.{view, items_view}
use Rattle.mongo_settings.specs.Properties.{item_elements, plain_element}
use Rattle.mongo_settings.proofs.Elements.{item_elements-drop}
use Rattle.mongo_settings.proofs.Grown.{grown, finished, growing_refused}
use Rattle.mongo_settings.proofs.settings.properties.array_of.Goals as goal

pub loop-item-preserved : goal.loop-item-preserved
loop-item-preserved c =
    let items = c.args.items.now in
    let i = c.loop-item.item-index in
    let x = c.item-item.result in
    let left = item_elements-drop items i x c.loop-item-test.true c.item-item.is in
    record {
      counted = c.in_ok-push_item.ensures.counted ∙ ap (λ n. n + 1) c.loop-item.invariant.counted;
      grows = grown c.loop-item.array.document c.push_item.new.array.document (item_elements 0 (items_view items)) (item_elements (i + 1) (items_view (drop (i + 1) items))) (plain_element (decimal i) (view x))
          (rw left at c.loop-item.invariant.grows) c.loop-item.array.framed.most (rw c.loop-item.invariant.counted at c.in_ok-push_item.ensures.put);
    }

pub returns-in_err-push_item : goal.returns-in_err-push_item
returns-in_err-push_item c =
    let items = c.args.items.now in
    let i = c.loop-item.item-index in
    let x = c.item-item.result in
    let left = item_elements-drop items i x c.loop-item-test.true c.item-item.is in
    let p = err_from_is_err_and c.from_residual-in_err-push_item.result c.from_residual-in_err-push_item.ensures.1 in
    rw (p.1, p.2) (growing_refused c.loop-item.array.document (item_elements 0 (items_view items)) (item_elements (i + 1) (items_view (drop (i + 1) items))) (plain_element (decimal i) (view x)) c.in_err-push_item.field-0.0
    (rw left at c.loop-item.invariant.grows) (rw c.loop-item.invariant.counted at c.in_err-push_item.ensures.refused))

pub returns : goal.returns
unfolding item_elements
returns c =
    let items = c.args.items.now in
    let none = drop_of_length-le items c.loop-item-test.false in
    finished c.loop-item.array.document (item_elements 0 (items_view items)) (rw none at c.loop-item.invariant.grows) c.loop-item.array.framed.most
