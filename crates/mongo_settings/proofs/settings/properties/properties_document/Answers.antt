use Rattle.std.proofs.lemmas.Result.{err_from_is_err_and}
use Rattle.serde_json.specs.View.{view, members_view}
use Rattle.mongo_settings.specs.Properties.{member_elements, keyed, property_element}
use Rattle.mongo_settings.proofs.Elements.{member_elements-step}
use Rattle.mongo_settings.proofs.Grown.{grown, finished, growing_refused}
use Rattle.mongo_settings.proofs.settings.properties.properties_document.Goals as goal

pub loop-key-preserved : goal.loop-key-preserved
loop-key-preserved c =
    let key = c.as_str.result.now in
    let d = view c.in-Some.value.now in
    let left = member_elements-step c.loop-key.key-iterator c.next.new.self c.in-Some.key.now key c.in-Some.value.now c.in-Some.ensures.steps c.as_str.ensures.value in
    record {
      framed = c.in_ok-put_property.ensures.framed;
      grows = grown c.loop-key.document c.put_property.new.document (member_elements (members_view c.args.members.now.entries)) (member_elements (members_view c.next.new.self)) (keyed key (property_element key d))
          (rw left at c.loop-key.invariant.grows) c.loop-key.invariant.framed.most c.in_ok-put_property.ensures.put;
    }

pub returns-in_err-put_property : goal.returns-in_err-put_property
returns-in_err-put_property c =
    let key = c.as_str.result.now in
    let d = view c.in-Some.value.now in
    let left = member_elements-step c.loop-key.key-iterator c.next.new.self c.in-Some.key.now key c.in-Some.value.now c.in-Some.ensures.steps c.as_str.ensures.value in
    let p = err_from_is_err_and c.from_residual-in_err-put_property.result c.from_residual-in_err-put_property.ensures.1 in
    rw (p.1, p.2) (growing_refused c.loop-key.document (member_elements (members_view c.args.members.now.entries)) (member_elements (members_view c.next.new.self)) (keyed key (property_element key d)) c.in_err-put_property.field-0.0
    (rw left at c.loop-key.invariant.grows) c.in_err-put_property.ensures.refused)

pub returns : goal.returns
unfolding member_elements
returns c = finished c.loop-key.document (member_elements (members_view c.args.members.now.entries)) (rw c.in-None.ensures.steps.0 at c.loop-key.invariant.grows) c.loop-key.invariant.framed.most
