use Rattle.std.proofs.Common.{◌≡◌, ◌++◌, ◌∷◌, [], length, ◌∙◌, ap, rules}
use Rattle.mongo_bson.proofs.IdFirst.{id_then_elements}
use Rattle.mongo_bson.proofs.id_field.with_id_first.Goals as goal

pub returns-clause-first : goal.returns-clause-first
returns-clause-first c =
    let start = c.in-Ok.ensures.items ∙ ap (λ w. w ++ 5 ∷ 0 ∷ 0 ∷ 0 ∷ 0 ∷ []) c.in_ok-held.ensures.items in
    id_then_elements c.args.id.0 c.extend_from_slice.new.self.items c.push_element.new.document.items c.push_elements.new.document.items c.element_bytes.result.now c.args.document.now (let twelve : length c.args.id.0 ≡ 12 = search rules in twelve) start c.in_ok-push_element.ensures.added c.element_bytes.ensures c.in_ok-push_elements.ensures.added
