use Rattle.std.proofs.Common.{sym, ◌∙◌, append-nil}
use Rattle.std.proofs.lemmas.List.{nil_from_length}
use Rattle.mongo_scram.proofs.Escaped.{escaped_more}
use Rattle.mongo_scram.proofs.user_name.saslname.Goals as goal

pub loop-character-preserved : goal.loop-character-preserved
loop-character-preserved c =
    rw c.in_ok-push_character.ensures (escaped_more _ _ _ _ c.in-Some.character c.in-Some.ensures.steps.0 c.loop-character.invariant)

pub returns : goal.returns
returns c =
    c.from_string.ensures
    ∙ sym (append-nil _)
    ∙ rw (nil_from_length _ c.in-None.ensures.steps.0.0) at c.loop-character.invariant
