use Rattle.std.proofs.Common.{ap, ◌∙◌}
use Rattle.mongo_command.specs.Literal.{text_element}
use Rattle.mongo_command.specs.Arguments.{size_of_elements}
use Rattle.mongo_command.specs.Keys.{db_key}
use Rattle.mongo_command.proofs.ArgumentSizes.{size_of_first}
use Rattle.mongo_command.proofs.arguments.size_of_arguments.Goals as goal

pub returns : goal.returns
returns c = size_of_first (text_element db_key c.args.target_db.now) _ _ _ _ (c.size_of_field.ensures ∙ ap size_of_elements c.text_field.ensures.elements) c.size_of_fields.ensures c.saturating_add.ensures
