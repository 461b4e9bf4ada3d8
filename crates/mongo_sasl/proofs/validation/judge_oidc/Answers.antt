use Rattle.std.proofs.Common.{◌∙◌}
use Rattle.mongo_sasl.proofs.Judged.{value_there, judged_alike}
use Rattle.mongo_sasl.proofs.validation.judge_oidc.Goals as goal

pub returns : goal.returns
returns c = λ elements is.
    c.judge_properties.ensures
    ∙ judged_alike c.args.credential.now c.args.callback_given _ _ _ _ _ _ _ _
    (c.has_foreign_property.ensures elements is)
    (c.property_text.ensures _ (c.property.ensures elements is))
    (c.is_some.ensures ∙ value_there _ _ (c.property-2.ensures elements is))
    (c.is_other_than_array.ensures _ (c.property-3.ensures elements is))
