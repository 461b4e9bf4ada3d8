use Rattle.std.proofs.Common.{take, ◌-◌, ap, ◌∙◌}
use Rattle.mongo_wire.proofs.Found.{pasted_front}
use Rattle.mongo_wire.proofs.frame_buffer.copy_to_front.Goals as goal

pub returns-clause-front : goal.returns-clause-front
returns-clause-front c = ap (take (c.args.to - c.args.from)) c.copy_within.ensures.after ∙ pasted_front c.args.bytes.now c.args.from c.args.to c.requires.0 c.requires.1
