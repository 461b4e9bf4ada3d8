use Rattle.mongo_bson.proofs.Shapes.{no_options, pattern_and_options}
use Rattle.mongo_bson.proofs.shape.regular_expression_len.Goals as goal

pub returns-in_err-_options : goal.returns-in_err-_options
returns-in_err-_options c =
    rw c.from_residual-in_err-_options.ensures (no_options c.args.bytes.now c.in_ok-_pattern._pattern.now c.in_ok-_pattern.rest.now c.in_ok-_pattern.ensures c.in_err-_options.ensures)

pub returns : goal.returns
returns c =
    pattern_and_options c.args.bytes.now c.in_ok-_pattern._pattern.now c.in_ok-_pattern.rest.now c.in_ok-_options._options.now c.in_ok-_options.rest.now c.in_ok-_pattern.ensures c.in_ok-_options.ensures
