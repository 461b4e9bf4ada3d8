use Rattle.mongo_wire.proofs.AtFront.{body_found, sequence_split}
use Rattle.mongo_wire.proofs.sections.split_section.Goals as goal

pub returns-in-Some : goal.returns-in-Some
returns-in-Some c = body_found c.args.bytes.now c.in_ok-kind.rest.now c.in-Some.after.now c.in_ok-kind.kind.now c.in-Some.document c.in_ok-kind.ensures.cases.0 c.in-0.is c.in-Some.ensures

pub returns-in-Some-split_sequence : goal.returns-in-Some-split_sequence
returns-in-Some-split_sequence c = sequence_split c.args.bytes.now c.in_ok-kind.rest.now c.in-Some-split_sequence.after.now c.in_ok-kind.kind.now c.in-Some-split_sequence.sequence c.in_ok-kind.ensures.cases.0 c.in-1.is c.in-Some-split_sequence.ensures
