use Rattle.std.proofs.Common.{rules}
use Rattle.mongo_scram.proofs.Parts.{no_first_comma, no_second_comma}
use Rattle.mongo_scram.proofs.parse.message_parts.Goals as goal

pub returns-in_default : goal.returns-in_default
returns-in_default c = λ first second third p. no_first_comma c.args.message.now first second third c.in_default.ensures p

pub returns-in_default-cut : goal.returns-in_default-cut
returns-in_default-cut c =
    λ first second third p. no_second_comma c.args.message.now c.in-Some.first.now c.in-Some.rest.now first second third (search rules) (search rules) (search rules) p
