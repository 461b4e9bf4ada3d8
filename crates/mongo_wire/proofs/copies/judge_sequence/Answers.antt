use Rattle.std.proofs.Common.{Some, [], ◌∷◌, ◌++◌, sym, ap, ◌∙◌}
use Rattle.mongo_wire.specs.Copies.{copies_with}
use Rattle.mongo_wire.proofs.Copied.{one_copy}
use Rattle.mongo_wire.proofs.copies.judge_sequence.Goals as goal

pub returns-in_ok-push-in-Some-2-clause-copied : goal.returns-in_ok-push-in-Some-2-clause-copied
returns-in_ok-push-in-Some-2-clause-copied c = λ s is shown _.
    let copy = rw c.in-Some-2.is at c.in_ok-copy-in-Some.ensures.copied in
    let same = one_copy s c.in-Some-2.copy c.args.sequence is shown copy.0 copy.1 in
    ap Some (c.in_ok-push-in-Some-2.ensures.added ∙ ap (λ l. c.in-Some.copies ++ l ∷ []) same) ∙ sym (ap (λ copies. copies_with copies (s ∷ [])) c.in-Some.is)
