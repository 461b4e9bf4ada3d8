use Rattle.std.proofs.Common.{◌≡◌, true, false, sym, ◌∙◌}
use Rattle.mongo_command.proofs.Elements.{taken, iteration_stopped}
use Rattle.mongo_aws.specs.ServerMessage.{is_message_key}
use Rattle.mongo_command.proofs.FirstOfKey.{elements_of}
use Rattle.mongo_aws.proofs.Foreign.{left_known, left_foreign, left_none, left_unbroken}
use Rattle.mongo_aws.proofs.server_message.has_foreign_element.Goals as goal

pub returns-then-not-is_message_key : goal.returns-then-not-is_message_key
returns-then-not-is_message_key c = λ all is.
    let takes = taken c.loop-item.item-iterator c.next.new.self c.in-Some.item c.in-Ok.key c.in-Ok._value c.in-Some.ensures.steps c.in-Ok.is in
    let foreign : is_message_key c.in-Ok.key.now ≡ false = sym c.is_message_key.ensures ∙ c.if-not-is_message_key.true in
    sym (left_foreign c.loop-item.item-iterator.rest.now c.next.new.self.rest.now c.in-Ok.key.now c.in-Ok._value all (c.loop-item.invariant all is) takes foreign)

pub loop-item-preserved : goal.loop-item-preserved
loop-item-preserved c = λ all is.
    let takes = taken c.loop-item.item-iterator c.next.new.self c.in-Some.item c.in-Ok.key c.in-Ok._value c.in-Some.ensures.steps c.in-Ok.is in
    let known : is_message_key c.in-Ok.key.now ≡ true = sym c.is_message_key.ensures ∙ c.if-not-is_message_key.false in
    left_known c.loop-item.item-iterator.rest.now c.next.new.self.rest.now c.in-Ok.key.now c.in-Ok._value all (c.loop-item.invariant all is) takes known

pub unreachable-requires : goal.unreachable-requires
unreachable-requires c =
    let elements = elements_of c.args.document.bytes.now c.requires in
    left_unbroken c.loop-item.item-iterator.rest.now elements.0 (iteration_stopped c.loop-item.item-iterator c.next.new.self c.in-Some.item c.in-Err.field-0 c.in-Some.ensures.steps c.in-Err.is) (c.loop-item.invariant elements.0 elements.1)

pub returns : goal.returns
returns c = λ all is. sym (left_none c.loop-item.item-iterator.rest.now all c.in-None.ensures.steps.0 (c.loop-item.invariant all is))
