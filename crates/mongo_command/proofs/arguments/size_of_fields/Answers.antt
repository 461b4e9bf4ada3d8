use Rattle.mongo_command.specs.Arguments.{field_elements}
use Rattle.mongo_command.proofs.ArgumentSizes.{size_of_more}
use Rattle.mongo_command.proofs.arguments.size_of_fields.Goals as goal

pub loop-field-preserved : goal.loop-field-preserved
loop-field-preserved c =
    size_of_more field_elements c.args.fields.now c.loop-field.field-index c.field-item.result _ _ _ c.loop-field-test.true c.field-item.is c.loop-field.invariant c.size_of_field.ensures c.saturating_add-size.ensures
