use Rattle.std.proofs.Common.{inr, sym, ◌∙◌}
use Rattle.std.proofs.lemmas.Bool.{false≢true}
use Rattle.mongo_bson.proofs.checks.replacement_document_check.Goals as goal

pub returns-then-is_modifier : goal.returns-then-is_modifier
returns-then-is_modifier c =
    let first = rw c.in-Ok-Some.field-0-is at c.in-Ok-Some.ensures.first in
    (c.in-Ok-Some.key.now, first, c.is_modifier.ensures.0 c.if-is_modifier.true)

pub returns-else-is_modifier : goal.returns-else-is_modifier
returns-else-is_modifier c =
    let first = rw c.in-Ok-Some.field-0-is at c.in-Ok-Some.ensures.first in
    inr (c.in-Ok-Some.key.now, first, λ modifier. false≢true (sym c.if-is_modifier.false ∙ c.is_modifier.ensures.1 modifier))
