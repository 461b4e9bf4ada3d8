use Rattle.mongo_bson.proofs.AtFront.{no_key, no_value, element_at_front}
use Rattle.mongo_bson.proofs.element.take_element.Goals as goal

pub returns-in_err-size : goal.returns-in_err-size
returns-in_err-size c =
    rw c.from_residual-in_err-size.ensures (no_value c.args.bytes.now c.in_ok-kind.rest.now c.in_ok-key.key.now c.in_ok-key.rest.now c.in_ok-kind.kind.now c.in_ok-kind.ensures.cases.0 c.in_ok-key.ensures c.in_err-size.ensures)

pub returns-in_err-key : goal.returns-in_err-key
returns-in_err-key c =
    rw c.from_residual-in_err-key.ensures (no_key c.args.bytes.now c.in_ok-kind.rest.now c.in_ok-kind.kind.now c.in_ok-kind.ensures.cases.0 c.in_err-key.ensures)

pub returns : goal.returns
returns c =
    element_at_front c.args.bytes.now c.in_ok-kind.rest.now c.in_ok-key.key.now c.in_ok-key.rest.now c.split_at.result.0.now c.split_at.result.1.now c.in_ok-kind.kind.now c.in_ok-size.size c.in_ok-kind.ensures.cases.0 c.in_ok-key.ensures c.in_ok-size.ensures c.split_at.ensures.front c.split_at.ensures.back
