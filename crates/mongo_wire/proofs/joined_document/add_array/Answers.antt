use Rattle.mongo_wire.proofs.Arrays.{push_alone, without_zero}
use Rattle.mongo_wire.proofs.joined_document.add_array.Goals as goal

pub returns-clause-refused : goal.returns-clause-refused
returns-clause-refused c =
    push_alone c.append.result c.append.ensures.refused (λ is. without_zero c.as_str.result.now c.args.sequence.now.identifier c.as_str.ensures c.requires (c.append.ensures.key_has_zero.0 is))
