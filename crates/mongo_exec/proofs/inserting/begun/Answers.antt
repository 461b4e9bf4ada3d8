use Rattle.std.proofs.Common.{Some, inr, refl, sym, ap, ◌∙◌}
use Rattle.mongo_exec.specs.Insert.{insert_of}
use Rattle.mongo_exec.proofs.Planning.{no_early_row}
use Rattle.mongo_exec.proofs.inserting.begun.Goals as goal

pub returns-in_ok-try_clone-in-Some-clause-refused : goal.returns-in_ok-try_clone-in-Some-clause-refused
returns-in_ok-try_clone-in-Some-clause-refused c =
    let (d, described, plan) = c.in_ok-plan.ensures.plan in
    inr (inr (no_early_row d (insert_of c.args.db.now c.args.collection.now c.args.ordered) c.args.documents.now c.args.connection.now.stream_description described plan.sendable, (c.in_ok-try_clone-in-Some.field-0, sym c.in-Some.ensures ∙ ap Some (sym c.in_ok-try_clone-in-Some.ensures.copied), refl)))
